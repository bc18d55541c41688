use Rattle.p3_field.proofs.Lemmas.{◌∙◌, loose_differences_of_lanes}
use Rattle.p3_field.proofs.lane_residues.loose_differences.Goals as goal

pub returns : goal.returns
returns g c =
    let N = g.N.Numbers in
    rw (c.MODULUS.ensures ∙ N.modulus_law)
    (loose_differences_of_lanes N.numbers.modulus N.numbers.above N.small_law c.args.a c.args.b _ c.fits-a.0 c.requires.first c.requires.second)
