use Rattle.p3_dft.proofs.Lemmas.{ℕ, ◌≡◌, ◌^◌, ◌<◌, ◌≤◌, ◌↔◌, IsTrue, leb, le-leb, leb-true, lit≤, min, sym, arith, pow-le-pow_right, true≢false, log_of_usize}
use Rattle.p3_dft.proofs.reed_solomon.fits_code.Goals as goal

-- two to a logarithm of at most 63 is below 2 ^ 64, and two to no other
below : (log : ℕ) → log ≤ 63 → 2 ^ log < 2 ^ 64
below log small = omega (arith, pow-le-pow_right {n = 2} (lit≤ tt) small)

within : (log two_adicity most : ℕ) → most ≡ min two_adicity 63 → IsTrue (leb log most) ↔ ((log ≤ two_adicity) × (2 ^ log < 2 ^ 64))
within log two_adicity most is = (
  λ t. (omega (arith, is, leb-true log most t), below log (omega (arith, is, leb-true log most t))),
  λ fits. le-leb log most (omega (arith, is, fits.0, log_of_usize log fits.1)),
)

pub returns-in-Some : goal.returns-in-Some
returns-in-Some g c = rw c.in-Some.ensures.1 (within _ _ _ (rw c.TWO_ADICITY.ensures at c.min.ensures))

pub returns-in-None : goal.returns-in-None
returns-in-None g c = (λ t. absurd (true≢false (sym t)), λ fits. absurd (c.in-None.ensures (omega (arith, log_of_usize _ fits.1))))
