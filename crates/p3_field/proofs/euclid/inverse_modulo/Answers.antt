use Rattle.p3_field.proofs.Bezout.{divisor_of_invertible}
use Rattle.p3_field.proofs.euclid.inverse_modulo.Goals as goal

pub returns-else-divisor-eq1-clause-none : goal.returns-else-divisor-eq1-clause-none
returns-else-divisor-eq1-clause-none c =
    λ _ y e. c.if-divisor-eq1.false
    (divisor_of_invertible c.args.modulus c.args.number y _ c.bezout-divisor.ensures.divisor e)
