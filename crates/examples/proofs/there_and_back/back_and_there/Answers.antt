use Rattle.p3_dft.proofs.Laws.TwoCalls.{transform_of_inverse}
use Rattle.std.proofs.lemmas.Result.{IfOk-weaker}
use Rattle.examples.proofs.there_and_back.back_and_there.Goals as goal

pub returns-clause-same : goal.returns-clause-same
returns-clause-same g c =
    IfOk-weaker c.coset_dft_batch.result _ _
    (λ there given. transform_of_inverse g.F.Valued g.F.TwoAdicField.generator c.args.mat c.in_ok-coefficients.coefficients _ (g.F.Valued.value c.args.shift)
    c.requires.fits c.in_ok-coefficients.ensures.coefficients given)
    c.coset_dft_batch.ensures.values
