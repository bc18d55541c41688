use Rattle.p3_field.proofs.Lemmas.{refl, upper_halves_of_lanes}
use Rattle.p3_field.proofs.residue31_x16.upper_halves.Goals as goal

pub returns : goal.returns
returns c = upper_halves_of_lanes 8 c.args.factor c.args.a c.requires c.fits-a.0 c.fits-a.1 refl refl
