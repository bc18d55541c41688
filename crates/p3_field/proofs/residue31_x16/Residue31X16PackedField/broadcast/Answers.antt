use Rattle.p3_field.proofs.Lemmas.{refl, same_numbers}
use Rattle.p3_field.proofs.residue31_x16.Residue31X16PackedField.broadcast.Goals as goal

pub returns : goal.returns
returns g c = same_numbers _ _ refl
