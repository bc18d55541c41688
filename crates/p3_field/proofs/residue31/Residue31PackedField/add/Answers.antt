use Rattle.p3_field.proofs.Lemmas.{ap, [], ◌∷◌, Residue, residue-eq}
use Rattle.p3_field.proofs.residue31.Residue31PackedField.add.Goals as goal

pub returns : goal.returns
returns g c = ap (λ (x : Residue g.N.Numbers.numbers.modulus). x ∷ []) (residue-eq _ _ c.add.ensures)
