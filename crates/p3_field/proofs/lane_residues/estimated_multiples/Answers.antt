use Rattle.p3_field.proofs.Lemmas.{◌∙◌, arith}
use Rattle.p3_field.proofs.LaneArithmetic.{rests_below, multiples_of_lanes}
use Rattle.p3_field.proofs.lane_residues.estimated_multiples.Goals as goal

pub remainders-requires : goal.remainders-requires
remainders-requires g c =
    let N = g.N.Numbers in
    let below = rests_below N.numbers.modulus N.numbers.above N.small_law c.args.t c.requires.factor c.args.a _ c.fits-a.0 c.fits-a.1 in
    (omega (arith, c.requires.lanes), (c.requires.lanes, rw (c.requires.near, c.MODULUS.ensures ∙ N.modulus_law) below))

pub returns-clause-value : goal.returns-clause-value
returns-clause-value g c =
    let N = g.N.Numbers in
    c.remainders.ensures.value
    ∙ rw (c.requires.near, c.MODULUS.ensures ∙ N.modulus_law)
    (multiples_of_lanes N.numbers.modulus N.numbers.above N.small_law c.args.t c.requires.factor c.args.a _ c.fits-a.0 c.fits-a.1)
