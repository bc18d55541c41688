use Rattle.std.proofs.Common.{rules}
use Rattle.p3_matrix_tests.proofs.tests.evaluations.rows_told_to_be_reversed.Goals as goal

pub bit_reverse_rows-view-requires : goal.bit_reverse_rows-view-requires
bit_reverse_rows-view-requires g c = (2, search rules)

pub bit_reverse_rows-told-requires : goal.bit_reverse_rows-told-requires
bit_reverse_rows-told-requires g c = (1, search rules)
