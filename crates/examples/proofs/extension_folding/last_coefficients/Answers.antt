use Rattle.std.proofs.Common.{ap, sym, ◌∙◌}
use Rattle.std.proofs.lemmas.Result.{IfOk-weaker}
use Rattle.examples.proofs.ExtensionValues.{interpolated_by_parts}
use Rattle.examples.proofs.extension_folding.last_coefficients.Goals as goal

pub returns-clause-coefficients : goal.returns-clause-coefficients
returns-clause-coefficients g c =
    IfOk-weaker c.coset_idft_algebra_batch.result _ _
    (λ out given.
    interpolated_by_parts g.F.Valued g.E.Valued g.E.BasedVectorSpace g.F.TwoAdicField.generator
    g.E.TwoAdicField.generator g.E.ExtensionField.embedded g.E.ExtensionField.root g.E.ExtensionField.w
    g.met.E.ExtensionField.extension_law (ap g.F.Valued.value (sym g.met.F.Field.same_zero) ∙ g.met.F.Field.zero_law)
    (ap g.E.Valued.value (sym g.met.E.Field.same_zero) ∙ g.met.E.Field.zero_law)
    g.met.E.BasedVectorSpace.dimension_law g.F.TwoAdicField.TWO_ADICITY g.E.TwoAdicField.TWO_ADICITY
    g.met.F.TwoAdicField.roots_law g.met.E.TwoAdicField.roots_law g.met.E.ExtensionField.subgroups_law c.args.values
    out c.args.shift c.requires.fits c.requires.invertible given)
    c.coset_idft_algebra_batch.ensures.coefficients
