use Rattle.p3_matrix.proofs.Lemmas.{◌≡◌, ◌+◌, ◌*◌, ◌^◌, ◌<◌, ◌≤◌, ℕ, rev, IsCarry}
use Rattle.p3_matrix.proofs.bitrev.next_reversed.Given as goal

abbrev pub invariant-loop-digit : goal.invariant-loop-digit
invariant-loop-digit l = record {
  carry : (i : ℕ) → i + 1 < 2 ^ l.fn.bits → l.fn.reverse ≡ rev l.fn.bits i → IsCarry l.fn.bits i l.rest l.digit;
  fits_u64 : 2 * l.digit ≤ 2 ^ l.fn.bits;
  falls : l.rest ≤ l.fn.reverse;
}

abbrev pub decreases-loop-digit : goal.decreases-loop-digit
decreases-loop-digit l = l.digit
