use Rattle.std.proofs.Common.{inl, refl, rules}
use Rattle.surface.proofs.tests.matrices.digits_are_reversed.Goals as goal

pub log2-requires : goal.log2-requires
log2-requires g c = (10, refl)

pub reverse_slice-requires : goal.reverse_slice-requires
reverse_slice-requires g c = inl (2, search rules)
