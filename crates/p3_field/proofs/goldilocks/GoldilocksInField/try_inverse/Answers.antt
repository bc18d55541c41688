use Rattle.p3_field.proofs.Lemmas.{refl, ap, sym, goldilocks_modulus, Residue, residue-eq}
use Rattle.p3_field.proofs.goldilocks.GoldilocksInField.try_inverse.Goals as goal

pub returns-clause-some : goal.returns-clause-some
returns-clause-some g c = residue-eq _ _ (sym c.in_ok-inverse.ensures.some)

pub returns-clause-found : goal.returns-clause-found
returns-clause-found g c = (
  record { number = c.in_ok-inverse.inverse; below = c.in_ok-inverse.ensures.below },
  residue-eq _ _ (sym c.in_ok-inverse.ensures.some),
)

pub returns-in_err-inverse-clause-found : goal.returns-in_err-inverse-clause-found
returns-in_err-inverse-clause-found g c =
    rw c.from_residual.ensures (λ inverse. c.in_err-inverse.ensures.none refl inverse.0.number
    (sym (ap (λ (x : Residue goldilocks_modulus). x.number) inverse.1)))

pub returns-in_err-inverse-clause-none : goal.returns-in_err-inverse-clause-none
returns-in_err-inverse-clause-none g c =
    λ _ inverse. c.in_err-inverse.ensures.none refl inverse.0.number
    (sym (ap (λ (x : Residue goldilocks_modulus). x.number) inverse.1))
