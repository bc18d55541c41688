use Rattle.std.proofs.Common.{sym, ◌∙◌}
use Rattle.p3_dft.proofs.Laws.TwoCalls.{transform_of_vector}
use Rattle.std.proofs.lemmas.Result.{IfOk-weaker}
use Rattle.examples.proofs.there_and_back.values_at_points.Goals as goal

pub returns-clause-values : goal.returns-clause-values
returns-clause-values g c =
    IfOk-weaker c.coset_dft.result _ _
    (λ out given k size. (transform_of_vector g.F.Valued g.F.TwoAdicField.generator c.args.coefficients.items out.items
    (g.F.Valued.value c.args.shift) k size given).1)
    c.coset_dft.ensures.values

pub returns-clause-long : goal.returns-clause-long
returns-clause-long g c =
    IfOk-weaker c.coset_dft.result _ _
    (λ out given. (transform_of_vector g.F.Valued g.F.TwoAdicField.generator c.args.coefficients.items out.items
    (g.F.Valued.value c.args.shift) c.requires.log (sym (c.args.coefficients.ok.0) ∙ c.requires.height) given).0)
    c.coset_dft.ensures.values
