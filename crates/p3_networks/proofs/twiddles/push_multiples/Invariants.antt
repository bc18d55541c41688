use Rattle.std.proofs.Common.{◌≡◌, ℕ, ◌+◌, ◌<◌, length, get_or}
use Rattle.p3_networks.proofs.twiddles.push_multiples.Given as goal

abbrev pub invariant-loop-i : goal.invariant-loop-i
invariant-loop-i g l =
    let field = g.F.Valued in
    let old = l.fn.elements.items in
    record {
      size : length l.elements.items + l.fn.from ≡ length old + l.i;
      before : (n : ℕ) → n < length old → get_or l.elements.items n field.zero ≡ get_or old n field.zero;
      after : (n : ℕ) → l.fn.from + n < l.i → field.value (get_or l.elements.items (length old + n) field.zero)
          ≡ field.ring.mul (field.value (get_or old (l.fn.from + n) field.zero)) (field.value l.fn.factor);
    }
