use Rattle.p3_field.proofs.Lemmas.{◌∙◌, ◌+◌, ◌/◌, ap, residue-eq, even_half, odd_half}
use Rattle.p3_field.proofs.residue31.Residue31Field.halve.Goals as goal
use Rattle.p3_field.proofs.residue31.Residue31Field.halve.Goals.{then-self-eq0, else-self-eq0}

pub returns : goal.returns
returns g c = residue-eq _ _ (elim c.if-self-eq0.branch [
  | then-self-eq0 w ↦ even_half g.N.Numbers.numbers.modulus c.args.self.number _ c.args.self.below w.if-self-eq0.true w.number-is
  | else-self-eq0 w ↦ odd_half g.N.Numbers.numbers.modulus c.args.self.number _ g.N.Numbers.numbers.odd
      c.args.self.below w.if-self-eq0.false
      (w.number-is ∙ ap (λ m. c.args.self.number / 2 + (m / 2 + 1)) (w.MODULUS.ensures ∙ g.N.Numbers.modulus_law))
])
