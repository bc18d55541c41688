use Rattle.p3_field.proofs.Lemmas.{◌∙◌, product_within_62_bits}
use Rattle.p3_field.proofs.residue31.Residue31Mul.mul.Goals as goal

pub returns : goal.returns
returns g c =
    product_within_62_bits g.N.Numbers.numbers.modulus _ _ _ g.N.Numbers.small_law c.args.self.below c.args.other.below
    (c.MODULUS.ensures ∙ g.N.Numbers.modulus_law)
