use Rattle.std.proofs.Common.{◌≡◌, ℕ, ◌+◌, ◌*◌, ◌<◌, length, get_or}
use Rattle.p3_field.proofs.lanes.LanesPackedField.store_pairs.Given as goal

abbrev pub invariant-loop-i : goal.invariant-loop-i
invariant-loop-i g l =
    let value = g.F.Valued.value in
    let zero = g.F.Valued.zero in
    record {
      long : length l.to ≡ 2 * g.row.N;
      first : (k : ℕ) → k < l.i → value (get_or l.to (2 * k) zero) ≡ value (get_or l.fn.self.lanes k zero);
      second : (k : ℕ) → k < l.i → value (get_or l.to (2 * k + 1) zero) ≡ value (get_or l.fn.second.lanes k zero);
    }
