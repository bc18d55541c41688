use Rattle.p3_field.proofs.Lemmas.{arith, bezout_step}
use Rattle.std.proofs.lemmas.Nat.Gcd.{IsGcd-from_mod, IsGcd-from_zero}
use Rattle.p3_field.proofs.euclid.bezout.Goals as goal

pub loop-low-preserved : goal.loop-low-preserved
loop-low-preserved c = record {
  high_factor_below = omega arith;
  low_factor_below = omega arith;
  high_factor = c.loop-low.invariant.low_factor;
  low_factor =
      bezout_step c.args.modulus c.requires.above c.requires.odd c.args.number c.loop-low.high c.loop-low.low
      c.loop-low.high_factor c.loop-low.low_factor
      c.loop-low.invariant.high_factor c.loop-low.invariant.low_factor;
  divisor = λ d h. c.loop-low.invariant.divisor d (IsGcd-from_mod c.loop-low.high c.loop-low.low d h);
}

pub returns-clause-divisor : goal.returns-clause-divisor
returns-clause-divisor c = c.loop-low.invariant.divisor c.loop-low.high (IsGcd-from_zero c.loop-low.high c.loop-low.low (omega arith))
