use Rattle.p3_field.proofs.Lemmas.{◌∙◌, arith}
use Rattle.p3_field.proofs.LaneArithmetic.{sums_of_lanes, sums_below}
use Rattle.p3_field.proofs.lane_residues.sums.Goals as goal

pub remainders-requires : goal.remainders-requires
remainders-requires g c =
    let N = g.N.Numbers in
    let below = sums_below N.numbers.modulus N.numbers.above N.small_law c.args.a c.args.b c.requires.first c.requires.second in
    (omega (arith, c.requires.lanes), (c.requires.lanes, below))

pub returns-clause-value : goal.returns-clause-value
returns-clause-value g c =
    let N = g.N.Numbers in
    c.remainders.ensures.value
    ∙ sums_of_lanes N.numbers.modulus N.numbers.above N.small_law c.args.a c.args.b c.requires.first c.requires.second
