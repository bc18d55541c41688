use Rattle.p3_field.proofs.Lemmas.{ap, [], ◌∷◌, goldilocks_modulus, Residue, residue-eq}
use Rattle.p3_field.proofs.goldilocks.GoldilocksInPackedField.add.Goals as goal

pub returns : goal.returns
returns g c = ap (λ (x : Residue goldilocks_modulus). x ∷ []) (residue-eq _ _ c.add.ensures)
