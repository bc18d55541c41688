use Rattle.p3_field.proofs.Lemmas.{refl, residue-eq, goldilocks_modulus, even_half, odd_half}
use Rattle.p3_field.proofs.goldilocks.GoldilocksInField.halve.Goals as goal
use Rattle.p3_field.proofs.goldilocks.GoldilocksInField.halve.Goals.{then-self-eq0, else-self-eq0}

pub returns : goal.returns
returns g c = residue-eq _ _ (elim c.if-self-eq0.branch [
  | then-self-eq0 w ↦ even_half goldilocks_modulus c.args.self.number _ c.args.self.below w.if-self-eq0.true w.number-is
  | else-self-eq0 w ↦ odd_half goldilocks_modulus c.args.self.number _ refl c.args.self.below w.if-self-eq0.false w.number-is
])
