use Rattle.std.proofs.Common.{inl, rules}
use Rattle.p3_matrix_tests.proofs.tests.bitrev.reverses_rows.Goals as goal

pub reverse_matrix_index_bits-requires : goal.reverse_matrix_index_bits-requires
reverse_matrix_index_bits-requires g c = inl (2, search rules)
