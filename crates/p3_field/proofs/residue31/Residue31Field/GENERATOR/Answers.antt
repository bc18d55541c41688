use Rattle.p3_field.proofs.Lemmas.{◌∙◌, ◌<◌, bounded-eq}
use Rattle.p3_field.proofs.residue31.Residue31Field.GENERATOR.Goals as goal

pub returns : goal.returns
returns g c =
    bounded-eq (λ n (h : n < g.N.Numbers.numbers.modulus). record { number = n; of = _; below = h }) _ _ _ _
    (c.GENERATOR.ensures ∙ g.N.Numbers.generator_law)
