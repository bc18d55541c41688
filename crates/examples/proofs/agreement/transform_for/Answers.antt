use Rattle.std.proofs.lemmas.Result.{IfOk-weaker}
use Rattle.p3_dft.proofs.Laws.TwoCalls.{transform_of_equal}
use Rattle.examples.proofs.agreement.transform_for.Goals as goal

pub returns-clause-values : goal.returns-clause-values
returns-clause-values g c =
    IfOk-weaker c.coset_dft_batch.result _ _
    (λ out given. transform_of_equal g.F.Valued g.F.TwoAdicField.generator c.args.mat c.args.like.now _ (g.F.Valued.value c.args.shift) c.requires.equal given)
    c.coset_dft_batch.ensures.values
