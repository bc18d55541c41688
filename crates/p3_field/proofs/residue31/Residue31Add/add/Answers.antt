use Rattle.std.proofs.Common.{◌∙◌, arith}
use Rattle.p3_field.proofs.Residues.{sum_below, sum_reaches}
use Rattle.p3_field.proofs.residue31.Residue31Add.add.Goals as goal
use Rattle.p3_field.proofs.residue31.Residue31Add.add.Goals.{then-sum-MODULUS, else-sum-MODULUS}

pub returns : goal.returns
returns g c = elim c.if-sum-MODULUS.branch [
  | then-sum-MODULUS w ↦ sum_below g.N.Numbers.numbers.modulus c.args.self.number c.args.other.number _
      (omega (arith, w.if-sum-MODULUS.true, (c.MODULUS.ensures ∙ g.N.Numbers.modulus_law))) w.result-is
  | else-sum-MODULUS w ↦ sum_reaches g.N.Numbers.numbers.modulus c.args.self.number c.args.other.number _
      c.args.self.below c.args.other.below
      (omega (arith, w.if-sum-MODULUS.false, (c.MODULUS.ensures ∙ g.N.Numbers.modulus_law)))
      (omega (arith, w.result-is, (w.MODULUS-else-sum-MODULUS.ensures ∙ g.N.Numbers.modulus_law)))
]
