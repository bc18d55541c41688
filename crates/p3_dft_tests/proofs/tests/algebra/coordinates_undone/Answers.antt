use Rattle.std.proofs.lemmas.Result.{IfOk-weaker}
use Rattle.p3_dft.proofs.Laws.Coordinates.{inverse_of_coordinate}
use Rattle.p3_dft_tests.proofs.tests.algebra.coordinates_undone.Goals as goal

pub returns : goal.returns
returns g c =
    IfOk-weaker c.coset_idft_algebra_batch.result _ _
    (λ out given t within.
    inverse_of_coordinate g.V.BasedVectorSpace g.met.V.BasedVectorSpace.dimension_law t within g.F.Valued
    g.F.TwoAdicField.generator g.F.TwoAdicField.TWO_ADICITY
    g.met.F.TwoAdicField.roots_law c.args.mat out (g.F.Valued.value c.args.shift) c.requires.fits c.requires.invertible given)
    c.coset_idft_algebra_batch.ensures.coefficients
