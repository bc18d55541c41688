use Rattle.p3_field.proofs.Lemmas.{◌∙◌, ◌%◌, ap, count-residue}
use Rattle.p3_field.proofs.residue31.Residue31Field.from_usize.Goals as goal

pub returns : goal.returns
returns g c =
    count-residue g.N.Numbers.numbers.modulus g.N.Numbers.numbers.above g.N.Numbers.numbers.odd c.args.n _
    (ap (λ m. c.args.n % m) (c.MODULUS.ensures ∙ g.N.Numbers.modulus_law))
