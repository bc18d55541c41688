use Rattle.p3_field.proofs.Lemmas.{ap, [], ◌∷◌, difference_law, Residue, residue-eq}
use Rattle.p3_field.proofs.residue31.Residue31PackedField.sub.Goals as goal

pub returns : goal.returns
returns g c = ap (λ (x : Residue g.N.Numbers.numbers.modulus). x ∷ []) (residue-eq _ _ (difference_law _ _ _ _ c.sub.ensures))
