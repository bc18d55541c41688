use Rattle.p3_field.proofs.Lemmas.{◌∙◌, ap, ◌-◌, ◌<◌, bounded-eq}
use Rattle.p3_field.proofs.residue31.Residue31Field.NEG_ONE.Goals as goal

pub returns : goal.returns
returns g c =
    bounded-eq (λ n (h : n < g.N.Numbers.numbers.modulus). record { number = n; of = _; below = h }) _ _ _ _
    (ap (λ m. m - 1) (c.MODULUS.ensures ∙ g.N.Numbers.modulus_law))
