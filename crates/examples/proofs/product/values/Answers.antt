use Rattle.std.proofs.Common.{arith, ap, sym, ◌∙◌}
use Rattle.std.proofs.lemmas.Result.{IfOk-weaker}
use Rattle.p3_dft.proofs.Laws.Convolutions.{transform_with_zeros}
use Rattle.examples.proofs.product.values.Goals as goal

pub returns-clause-values : goal.returns-clause-values
returns-clause-values g c =
    IfOk-weaker c.dft.result _ _
    (λ out given k power. transform_with_zeros g.F.Valued g.F.TwoAdicField.generator
    (ap g.F.Valued.value (sym g.met.F.Field.same_zero) ∙ g.met.F.Field.zero_law) c.args.coefficients.items out.items _
    _ c.args.size g.F.Valued.ring.one k
    c.in_ok-extend_by_zeros.ensures.ok (omega (arith, c.len.ensures, c.requires.room, c.args.coefficients.ok.0)) power given)
    c.dft.ensures.values
