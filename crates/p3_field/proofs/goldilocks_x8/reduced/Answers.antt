use Rattle.p3_field.proofs.GoldilocksLanes.{reduced_words}
use Rattle.p3_field.proofs.goldilocks_x8.reduced.Goals as goal

pub returns : goal.returns
returns c = reduced_words c.args.low c.args.high 8 c.fits-low.0 c.fits-low.1 c.fits-high.1
