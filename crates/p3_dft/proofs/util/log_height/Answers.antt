use Rattle.p3_dft.proofs.Calls.Shapes.{log_fits_dft}
use Rattle.p3_dft.proofs.util.log_height.Goals as goal

pub returns-clause-within : goal.returns-clause-within
returns-clause-within g c = (log_fits_dft c.height.result c.log2_strict_usize.result c.requires c.log2_strict_usize.ensures.power c.height.ensures.height).0
