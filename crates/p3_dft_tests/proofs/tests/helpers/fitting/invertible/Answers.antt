use Rattle.std.proofs.Common.{rules}
use Rattle.p3_dft_tests.proofs.tests.helpers.fitting.invertible.Goals as goal

pub returns-clause-invertible : goal.returns-clause-invertible
returns-clause-invertible g c = c.has_inverse.ensures.0 (search rules)
