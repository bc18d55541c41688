use Rattle.std.proofs.Common.{◌∙◌, arith}
use Rattle.p3_field.proofs.Residues.{negative_zero, negative_other}
use Rattle.p3_field.proofs.residue31.Residue31Neg.neg.Goals as goal
use Rattle.p3_field.proofs.residue31.Residue31Neg.neg.Goals.{then-self-eq0, else-self-eq0}

pub returns : goal.returns
returns g c = elim c.if-self-eq0.branch [
  | then-self-eq0 w ↦ negative_zero g.N.Numbers.numbers.modulus c.args.self.number _ w.if-self-eq0.true w.result-is
  | else-self-eq0 w ↦ negative_other g.N.Numbers.numbers.modulus c.args.self.number _ c.args.self.below
      w.if-self-eq0.false (omega (arith, w.result-is, (w.MODULUS.ensures ∙ g.N.Numbers.modulus_law)))
]
