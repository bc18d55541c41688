use Rattle.p3_field.proofs.Lemmas.{◌∙◌, ◌%◌, ◌*◌, ◌<◌, refl, ap, subst, sym, Residue, residue-eq}
use Rattle.p3_field.proofs.residue31.Residue31Field.try_inverse.Goals as goal

pub returns-clause-some : goal.returns-clause-some
returns-clause-some g c =
    residue-eq _ _ (ap (λ m. (c.args.self.now.number * c.in_ok-inverse.inverse) % m)
    (sym (c.MODULUS.ensures ∙ g.N.Numbers.modulus_law))
    ∙ sym c.in_ok-inverse.ensures.some)

pub returns-clause-found : goal.returns-clause-found
returns-clause-found g c = (
  record {
    number = c.in_ok-inverse.inverse;
    below =
        subst (λ m. c.in_ok-inverse.inverse < m) (c.MODULUS.ensures ∙ g.N.Numbers.modulus_law)
        c.in_ok-inverse.ensures.below;
  },
  residue-eq _ _ (ap (λ m. (c.args.self.now.number * c.in_ok-inverse.inverse) % m)
      (sym (c.MODULUS.ensures ∙ g.N.Numbers.modulus_law))
      ∙ sym c.in_ok-inverse.ensures.some),
)

pub returns-in_err-inverse-clause-found : goal.returns-in_err-inverse-clause-found
returns-in_err-inverse-clause-found g c =
    rw c.from_residual.ensures
    (λ inverse. c.in_err-inverse.ensures.none refl inverse.0.number
    (sym (ap (λ (x : Residue g.N.Numbers.numbers.modulus). x.number) inverse.1)
    ∙ ap (λ m. (c.args.self.now.number * inverse.0.number) % m) (sym (c.MODULUS.ensures ∙ g.N.Numbers.modulus_law))))

pub returns-in_err-inverse-clause-none : goal.returns-in_err-inverse-clause-none
returns-in_err-inverse-clause-none g c =
    λ _ inverse. c.in_err-inverse.ensures.none refl inverse.0.number
    (sym (ap (λ (x : Residue g.N.Numbers.numbers.modulus). x.number) inverse.1)
    ∙ ap (λ m. (c.args.self.now.number * inverse.0.number) % m) (sym (c.MODULUS.ensures ∙ g.N.Numbers.modulus_law)))
