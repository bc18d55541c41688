use Rattle.std.proofs.Common.{◌≡◌, ℕ, ◌<◌, ◌≤◌, get_or, length}
use Rattle.examples.proofs.product.entry_products.Given as goal

abbrev pub invariant-loop-i : goal.invariant-loop-i
invariant-loop-i g l =
    let ring = g.F.Valued.ring in
    let value = g.F.Valued.value in
    let zero = g.F.Valued.zero in
    record {
      long : length l.entries.items ≡ length l.fn.entries.items;
      done : (k : ℕ) → k < l.i
          → value (get_or l.entries.items k zero)
          ≡ ring.mul (value (get_or l.fn.entries.items k zero)) (value (get_or l.fn.others k zero));
      rest : (k : ℕ) → l.i ≤ k → get_or l.entries.items k zero ≡ get_or l.fn.entries.items k zero;
    }
