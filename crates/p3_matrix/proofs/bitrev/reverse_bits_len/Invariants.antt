use Rattle.p3_matrix.proofs.Lemmas.{◌≡◌, ◌+◌, ◌-◌, ◌*◌, ◌^◌, ◌<◌, rev}
use Rattle.p3_matrix.proofs.bitrev.reverse_bits_len.Given as goal

abbrev pub invariant-loop-digit : goal.invariant-loop-digit
invariant-loop-digit l = record {
  reversed : rev l.fn.bits l.fn.x ≡ l.reverse * 2 ^ (l.fn.bits - l._digit) + rev (l.fn.bits - l._digit) l.left;
  below : l.reverse < 2 ^ l._digit;
}
