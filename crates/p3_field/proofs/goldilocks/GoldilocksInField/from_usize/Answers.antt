use Rattle.p3_field.proofs.Lemmas.{refl, count-residue}
use Rattle.p3_field.proofs.goldilocks.GoldilocksInField.from_usize.Goals as goal

pub returns : goal.returns
returns g c = count-residue _ _ _ c.args.n _ refl
