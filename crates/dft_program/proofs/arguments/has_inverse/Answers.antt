use Rattle.std.proofs.Common.{sym, ◌∙◌}
use Rattle.dft_program.proofs.Inverses.{finds, inverts}
use Rattle.dft_program.proofs.arguments.has_inverse.Goals as goal

pub returns-clause-test : goal.returns-clause-test
returns-clause-test g c element named =
    c.is_some.ensures
    ∙ finds g.F.Valued g.F.TwoAdicField.generator g.F.TwoAdicField.TWO_ADICITY g.F.CanonicalField.ORDER_U64 element g.met.F.Field.number_law named
    g.met.F.CanonicalField.number_below_law c.element_of.result c.try_inverse.result c.args.number c.element_of.ensures
    c.try_inverse.ensures.some c.try_inverse.ensures.none

pub returns-clause-invertible : goal.returns-clause-invertible
returns-clause-invertible g c is x same =
    inverts g.F.Valued g.met.F.Field.number_law c.element_of.result x c.try_inverse.result
    (same ∙ sym c.element_of.ensures) c.try_inverse.ensures.some (sym c.is_some.ensures ∙ is)
