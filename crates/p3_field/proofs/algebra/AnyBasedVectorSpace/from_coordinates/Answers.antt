use Rattle.p3_field.proofs.Lists.{single}
use Rattle.p3_field.proofs.algebra.AnyBasedVectorSpace.from_coordinates.Goals as goal

pub returns : goal.returns
returns g c = single _ _ c.requires c.index-from-0.is
