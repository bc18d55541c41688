use Rattle.std.proofs.lemmas.Result.{IfOk-weaker}
use Rattle.p3_dft.specs.Transforms.{IsTransform}
use Rattle.p3_dft.proofs.Laws.Coordinates.{in_dimension_one}
use Rattle.p3_dft_tests.proofs.tests.algebra.transformed_in_dimension_one.Goals as goal

pub returns : goal.returns
returns g c =
    IfOk-weaker c.dft_algebra_batch.result _ _
    (λ out given. in_dimension_one (λ m n. IsTransform g.F.Valued g.F.TwoAdicField.generator m g.F.Valued.ring.one n) c.args.mat out given)
    c.dft_algebra_batch.ensures.values
