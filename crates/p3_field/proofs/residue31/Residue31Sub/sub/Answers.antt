use Rattle.std.proofs.Common.{◌∙◌, arith}
use Rattle.p3_field.proofs.Residues.{difference_below, difference_above}
use Rattle.p3_field.proofs.residue31.Residue31Sub.sub.Goals as goal
use Rattle.p3_field.proofs.residue31.Residue31Sub.sub.Goals.{then-self-other, else-self-other}

pub returns : goal.returns
returns g c = elim c.if-self-other.branch [
  | then-self-other w ↦ difference_above g.N.Numbers.numbers.modulus c.args.self.number c.args.other.number _
      c.args.self.below c.args.other.below w.if-self-other.true w.result-is
  | else-self-other w ↦ difference_below g.N.Numbers.numbers.modulus c.args.self.number c.args.other.number _
      c.args.other.below w.if-self-other.false
      (omega (arith, w.result-is, (w.MODULUS.ensures ∙ g.N.Numbers.modulus_law)))
]
