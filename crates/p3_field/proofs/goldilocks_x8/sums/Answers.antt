use Rattle.p3_field.proofs.GoldilocksLanes.{goldilocks_sums}
use Rattle.p3_field.proofs.goldilocks_x8.sums.Goals as goal

pub returns : goal.returns
returns c = goldilocks_sums c.args.a c.args.b 8 c.fits-a.0 c.fits-b.0 c.requires.first c.requires.second
