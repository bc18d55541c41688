use Rattle.p3_field.proofs.GoldilocksLanes.{goldilocks_differences}
use Rattle.p3_field.proofs.goldilocks_x8.differences.Goals as goal

pub returns : goal.returns
returns c = goldilocks_differences c.args.a c.args.b 8 c.fits-a.0 c.requires.first c.requires.second
