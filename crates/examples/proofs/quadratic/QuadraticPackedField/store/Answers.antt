use Rattle.std.proofs.Common.{ap, map}
use Rattle.p3_field.proofs.Lists.{slice_set-single}
use Rattle.examples.proofs.quadratic.QuadraticPackedField.store.Goals as goal

pub returns : goal.returns
returns g c = ap (map _) (slice_set-single c.args.to.now c.args.self c.requires)
