use Rattle.std.proofs.Common.{rules}
use Rattle.p3_matrix_tests.proofs.tests.evaluations.rows_by_natural_number.Goals as goal

pub bit_reverse_rows-view-requires : goal.bit_reverse_rows-view-requires
bit_reverse_rows-view-requires g c = (2, search rules)
