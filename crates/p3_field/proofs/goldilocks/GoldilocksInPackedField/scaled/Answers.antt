use Rattle.p3_field.proofs.Lemmas.{ap, [], ◌∷◌, goldilocks_modulus, Residue, residue-eq}
use Rattle.p3_field.proofs.goldilocks.GoldilocksInPackedField.scaled.Goals as goal

pub returns-clause-lanes : goal.returns-clause-lanes
returns-clause-lanes g c = ap (λ (x : Residue goldilocks_modulus). x ∷ []) (residue-eq _ _ c.mul.ensures)
