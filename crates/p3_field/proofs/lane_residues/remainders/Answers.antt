use Rattle.p3_field.proofs.Lemmas.{◌∙◌}
use Rattle.p3_field.proofs.LaneArithmetic.{remainders_of_lanes, remainders_below}
use Rattle.p3_field.proofs.lane_residues.remainders.Goals as goal

pub returns-clause-value : goal.returns-clause-value
returns-clause-value g c =
    let N = g.N.Numbers in
    rw (c.MODULUS.ensures ∙ N.modulus_law) (remainders_of_lanes N.numbers.modulus N.numbers.above N.small_law c.args.x _ c.fits-x.0 c.requires.below)

pub returns-clause-below : goal.returns-clause-below
returns-clause-below g c =
    let N = g.N.Numbers in
    rw (c.MODULUS.ensures ∙ N.modulus_law) (remainders_below N.numbers.modulus N.numbers.above N.small_law c.args.x _ c.fits-x.0 c.requires.below)
