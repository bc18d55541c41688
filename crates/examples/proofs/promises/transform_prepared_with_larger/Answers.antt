use Rattle.std.proofs.Common.{arith}
use Rattle.examples.proofs.promises.transform_prepared_with_larger.Goals as goal

pub returns-clause-ok : goal.returns-clause-ok
returns-clause-ok g c = c.dft_batch.ensures.succeeds c.args.log_h c.requires.height (omega (arith, c.requires.below, c.requires.prepared))
