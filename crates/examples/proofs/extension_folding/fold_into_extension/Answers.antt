use Rattle.std.proofs.Common.{suc, ◌∙◌, ap, sym}
use Rattle.std.proofs.lemmas.Result.{IfOk-weaker}
use Rattle.examples.proofs.ExtensionValues.{embedded_degree, height-embedded}
use Rattle.examples.proofs.extension_folding.fold_into_extension.Goals as goal

pub returns-clause-folded : goal.returns-clause-folded
returns-clause-folded g c =
    IfOk-weaker c.fold.result _ _ (λ out given k tall. given k (height-embedded g.E.ExtensionField.embedded c.args.values.now ∙ tall))
    (rw (c.in_ok-lifted.ensures.embedded, c.from_base.ensures) at c.fold.ensures.folded)

pub returns-clause-degree : goal.returns-clause-degree
returns-clause-degree g c =
    IfOk-weaker c.fold.result _ _
    (λ out given k h tall has.
    given k h (height-embedded g.E.ExtensionField.embedded c.args.values.now ∙ tall)
    (embedded_degree g.F.Valued g.E.Valued g.E.BasedVectorSpace g.F.TwoAdicField.generator g.E.TwoAdicField.generator
    g.E.ExtensionField.embedded g.E.ExtensionField.root g.E.ExtensionField.w
    g.met.E.ExtensionField.extension_law (ap g.F.Valued.value (sym g.met.F.Field.same_zero) ∙ g.met.F.Field.zero_law)
    (ap g.E.Valued.value (sym g.met.E.Field.same_zero) ∙ g.met.E.Field.zero_law) c.args.layout h (suc k) c.args.shift
    c.args.values.now has))
    (rw (c.in_ok-lifted.ensures.embedded, c.from_base.ensures) at c.fold.ensures.degree)
