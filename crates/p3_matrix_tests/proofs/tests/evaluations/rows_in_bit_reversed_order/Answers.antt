use Rattle.std.proofs.Common.{rules}
use Rattle.p3_matrix_tests.proofs.tests.evaluations.rows_in_bit_reversed_order.Goals as goal

pub into_bit_reversed-view-requires : goal.into_bit_reversed-view-requires
into_bit_reversed-view-requires g c = (2, search rules)
