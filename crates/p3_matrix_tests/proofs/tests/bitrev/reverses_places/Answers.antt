use Rattle.std.proofs.Common.{rules}
use Rattle.p3_matrix_tests.proofs.tests.bitrev.reverses_places.Goals as goal

pub reversed-places-requires : goal.reversed-places-requires
reversed-places-requires g c = (3, search rules)
