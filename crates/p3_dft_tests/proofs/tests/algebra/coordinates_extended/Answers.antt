use Rattle.std.proofs.lemmas.Result.{IfOk-weaker}
use Rattle.p3_dft.proofs.Laws.Coordinates.{extension_of_coordinate}
use Rattle.p3_dft_tests.proofs.tests.algebra.coordinates_extended.Goals as goal

pub returns : goal.returns
returns g c =
    IfOk-weaker c.coset_lde_algebra_batch.result _ _
    (λ out given t within.
    extension_of_coordinate g.V.BasedVectorSpace g.met.V.BasedVectorSpace.dimension_law t within g.F.Valued
    g.F.TwoAdicField.generator c.args.mat out c.args.added_bits
    (g.F.Valued.value c.args.shift) c.requires.width given)
    c.coset_lde_algebra_batch.ensures.values
