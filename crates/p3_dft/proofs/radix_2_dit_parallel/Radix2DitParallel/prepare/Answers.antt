use Rattle.p3_matrix.proofs.TwoPowers.{log_lt}
use Rattle.p3_dft.proofs.radix_2_dit_parallel.Radix2DitParallel.prepare.Goals as goal

pub make-requires-clause-fits_u64 : goal.make-requires-clause-fits_u64
make-requires-clause-fits_u64 g c = log_lt c.args.log_h 64 c.requires.size
