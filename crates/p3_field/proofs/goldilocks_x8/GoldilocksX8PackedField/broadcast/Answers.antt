use Rattle.p3_field.proofs.Lemmas.{refl, same_numbers}
use Rattle.p3_field.proofs.goldilocks_x8.GoldilocksX8PackedField.broadcast.Goals as goal

pub returns : goal.returns
returns c = same_numbers _ _ refl
