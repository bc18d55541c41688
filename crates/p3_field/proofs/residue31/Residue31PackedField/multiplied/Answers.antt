use Rattle.p3_field.proofs.Lemmas.{ap, [], ◌∷◌, Residue, residue-eq}
use Rattle.p3_field.proofs.residue31.Residue31PackedField.multiplied.Goals as goal

pub returns-clause-lanes : goal.returns-clause-lanes
returns-clause-lanes g c = ap (λ (x : Residue g.N.Numbers.numbers.modulus). x ∷ []) (residue-eq _ _ c.mul.ensures)
