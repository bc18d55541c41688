use Rattle.p3_matrix.proofs.Lemmas.{◌≡◌, ◌/◌, ◌<◌, ◌⊎◌, inl, inr, ap, arith, one_shl}
use Rattle.p3_matrix.proofs.Carries.{carry_starts, carry_goes_on, carry_ends}
use Rattle.p3_matrix.proofs.bitrev.next_reversed.Goals as goal
use Rattle.p3_matrix.proofs.bitrev.next_reversed.Goals.{then-loop-digit-test+else-rest-digit, else-loop-digit-test}

pub loop-digit-init : goal.loop-digit-init
loop-digit-init c =
    let is = one_shl c.args.bits 64 (omega arith) in
    record {
      carry = λ i l e. carry_starts c.args.bits i c.args.reverse _ l e (ap (λ n. n / 2) is);
      fits_u64 = omega arith;
      falls = omega arith;
    }

pub loop-digit-preserved : goal.loop-digit-preserved
loop-digit-preserved c = record {
  carry = λ i l e. carry_goes_on c.args.bits i c.loop-digit.rest c.loop-digit.digit c.if-rest-digit.true (c.loop-digit.invariant.carry i l e);
  fits_u64 = omega arith;
  falls = omega arith;
}

pub returns-clause-next : goal.returns-clause-next
returns-clause-next c = λ i l e.
    let stopped : (c.loop-digit.digit ≡ 0) ⊎ (c.loop-digit.rest < c.loop-digit.digit) =
    elim c.loop-digit-test.branch [
      | then-loop-digit-test+else-rest-digit w ↦ inr (omega arith)
      | else-loop-digit-test w ↦ inl (omega arith)
    ]
    in
    carry_ends c.args.bits i c.loop-digit.rest c.loop-digit.digit stopped (c.loop-digit.invariant.carry i l e)
