use Rattle.p3_field.proofs.Lemmas.{◌<◌, ◌∙◌, subst, sym, count_law, residue-eq}
use Rattle.p3_field.proofs.residue31.Residue31CanonicalField.new.Goals as goal

pub returns-then-number-MODULUS-clause-value : goal.returns-then-number-MODULUS-clause-value
returns-then-number-MODULUS-clause-value g c =
    let below = subst (λ m. c.args.number < m) (c.MODULUS.ensures ∙ g.N.Numbers.modulus_law) c.if-number-MODULUS.true in
    residue-eq _ _ (sym (count_law g.N.Numbers.numbers.modulus g.N.Numbers.numbers.above g.N.Numbers.numbers.odd c.args.number below))
