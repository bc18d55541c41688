use Rattle.std.proofs.Common.{refl}
use Rattle.p3_matrix_tests.proofs.tests.util.takes_logarithms.Goals as goal

pub log2_strict_usize-requires-2 : goal.log2_strict_usize-requires-2
log2_strict_usize-requires-2 g c = (3, refl)

pub log2_strict_usize-requires-3 : goal.log2_strict_usize-requires-3
log2_strict_usize-requires-3 g c = (63, refl)
