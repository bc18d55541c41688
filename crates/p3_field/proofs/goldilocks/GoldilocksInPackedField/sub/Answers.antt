use Rattle.p3_field.proofs.Lemmas.{ap, [], ◌∷◌, goldilocks_modulus, difference_law, Residue, residue-eq}
use Rattle.p3_field.proofs.goldilocks.GoldilocksInPackedField.sub.Goals as goal

pub returns : goal.returns
returns g c = ap (λ (x : Residue goldilocks_modulus). x ∷ []) (residue-eq _ _ (difference_law _ _ _ _ c.sub.ensures))
