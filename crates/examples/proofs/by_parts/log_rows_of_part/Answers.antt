use Rattle.examples.proofs.Parts.{rows_of_parts}
use Rattle.examples.proofs.by_parts.log_rows_of_part.Goals as goal

pub overflow_sub-result : goal.overflow_sub-result
overflow_sub-result g c = (rows_of_parts c.args.log_parts c.log_height.result c.requires.fits c.log_height.ensures.power c.requires.parts).0

pub returns : goal.returns
returns g c = (rows_of_parts c.args.log_parts c.log_height.result c.requires.fits c.log_height.ensures.power c.requires.parts).1
