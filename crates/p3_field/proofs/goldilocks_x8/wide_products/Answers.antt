use Rattle.p3_field.proofs.GoldilocksLanes.{low_words, high_words}
use Rattle.p3_field.proofs.goldilocks_x8.wide_products.Goals as goal

pub returns-clause-low : goal.returns-clause-low
returns-clause-low c = low_words c.args.x c.args.t 8 c.fits-x.0 c.fits-x.1 c.fits-t.1

pub returns-clause-high : goal.returns-clause-high
returns-clause-high c = high_words c.args.x c.args.t 8 c.fits-x.0 c.fits-x.1 c.fits-t.1
