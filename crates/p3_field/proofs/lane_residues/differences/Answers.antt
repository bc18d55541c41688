use Rattle.p3_field.proofs.Lemmas.{◌∙◌}
use Rattle.p3_field.proofs.LaneArithmetic.{differences_of_lanes, differences_below}
use Rattle.p3_field.proofs.lane_residues.differences.Goals as goal

pub returns-clause-value : goal.returns-clause-value
returns-clause-value g c =
    let N = g.N.Numbers in
    rw (c.MODULUS.ensures ∙ N.modulus_law)
    (differences_of_lanes N.numbers.modulus N.numbers.above N.small_law c.args.a c.args.b _ c.fits-a.0 c.requires.first c.requires.second)

pub returns-clause-below : goal.returns-clause-below
returns-clause-below g c =
    let N = g.N.Numbers in
    rw (c.MODULUS.ensures ∙ N.modulus_law)
    (differences_below N.numbers.modulus N.numbers.above N.small_law c.args.a c.args.b _ c.fits-a.0 c.requires.first c.requires.second)
