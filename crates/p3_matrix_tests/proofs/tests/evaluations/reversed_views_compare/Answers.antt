use Rattle.std.proofs.Common.{rules}
use Rattle.p3_matrix_tests.proofs.tests.evaluations.reversed_views_compare.Goals as goal

pub bit_reverse_rows-view-requires : goal.bit_reverse_rows-view-requires
bit_reverse_rows-view-requires g c = (1, search rules)

pub bit_reverse_rows-wide-requires : goal.bit_reverse_rows-wide-requires
bit_reverse_rows-wide-requires g c = (0, search rules)

pub bit_reverse_rows-again-requires : goal.bit_reverse_rows-again-requires
bit_reverse_rows-again-requires g c = (1, search rules)
