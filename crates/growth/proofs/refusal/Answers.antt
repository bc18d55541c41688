use Rattle.std.proofs.Common.{refl}
use Rattle.growth.proofs.refusal.Goals as goal

pub returns : goal.returns
returns g c = (_, refl)
