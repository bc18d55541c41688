use Rattle.std.proofs.Common.{refl, rules}
use Rattle.p3_dft_tests.proofs.tests.tables.made_for_a_height.Goals as goal

pub new-engine-requires : goal.new-engine-requires
new-engine-requires g c several = (3, refl, search rules)
