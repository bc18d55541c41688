-- Elements of a quadratic step: units and norms, sums of ones, and the product with the root.
use Rattle.std.proofs.Common.{◌≡◌, ◌↔◌, ℕ, zero, suc, refl, sym, ap, ap₂, ◌∙◌, [], ◌∷◌}
use Rattle.p3_field.specs.Ring.{Ring, IsInvertible, count}
use Rattle.p3_field.proofs.RingSolver.{solve, va, vb, vc, vd, ve, ◌⊞◌, ◌⊟◌, ◌⊠◌, ⊝, zeroₑ, oneₑ}
use Rattle.examples.specs.QuadraticFields.{both, embedded-add}
use Rattle.examples.specs.Quadratics.{embedded, norm, quadratic}

module _ {A : Type 0} (r : Ring A) (w : A) where
  open r use {add as ◌⊕◌, mul as ◌⊗◌, neg, zero as 𝟘, one as 𝟙}

  infixl 60 ◌⊕◌
  infixl 70 ◌⊗◌
  -- ---- units and norms
  -- the norm of a product is the product of the norms
  norm-mul : (x y : A × A) → norm r w ((quadratic r w).mul x y) ≡ norm r w x ⊗ norm r w y
  norm-mul (a, b) (c, d) =
      solve r (a ∷ b ∷ c ∷ d ∷ w ∷ [])
      ((va ⊠ vc ⊞ ve ⊠ (vb ⊠ vd)) ⊠ (va ⊠ vc ⊞ ve ⊠ (vb ⊠ vd)) ⊟ ve ⊠ ((va ⊠ vd ⊞ vb ⊠ vc) ⊠ (va ⊠ vd ⊞ vb ⊠ vc)))
      ((va ⊠ va ⊟ ve ⊠ (vb ⊠ vb)) ⊠ (vc ⊠ vc ⊟ ve ⊠ (vd ⊠ vd))) refl

  norm-one : norm r w (𝟙, 𝟘) ≡ 𝟙
  norm-one = solve r (w ∷ []) (oneₑ ⊠ oneₑ ⊟ va ⊠ (zeroₑ ⊠ zeroₑ)) oneₑ refl

  -- (a + b x) * (a - b x) / norm is one
  pub inverse_by_norm : (a b n : A) → norm r w (a, b) ⊗ n ≡ 𝟙 → (quadratic r w).mul (a, b) (a ⊗ n, neg (b ⊗ n)) ≡ (quadratic r w).one
  inverse_by_norm a b n one =
      both (solve r (a ∷ b ∷ n ∷ w ∷ []) (va ⊠ (va ⊠ vc) ⊞ vd ⊠ (vb ⊠ ⊝ (vb ⊠ vc))) ((va ⊠ va ⊟ vd ⊠ (vb ⊠ vb)) ⊠ vc) refl ∙ one)
      (solve r (a ∷ b ∷ n ∷ []) (va ⊠ ⊝ (vb ⊠ vc) ⊞ vb ⊠ (va ⊠ vc)) zeroₑ refl)

  pub unit_by_norm : (x : A × A) → IsInvertible r (norm r w x) ↔ IsInvertible (quadratic r w) x
  unit_by_norm (a, b) = (
    λ (n, one). ((a ⊗ n, neg (b ⊗ n)), inverse_by_norm a b n one),
    λ (y, one). (norm r w y, sym (norm-mul (a, b) y) ∙ ap (norm r w) one ∙ norm-one),
  )

  -- ---- sums of ones, and the root
  pub embedded-count : (n : ℕ) → embedded r w (count r n) ≡ count (quadratic r w) n
  unfolding count
  embedded-count zero = refl
  embedded-count (suc n) = sym (embedded-add r w 𝟙 (count r n)) ∙ ap ((quadratic r w).add (𝟙, 𝟘)) (embedded-count n)

  pub root-mul : (z o a b : A) → z ≡ 𝟘 → o ≡ 𝟙 → (quadratic r w).mul (z, o) (a, b) ≡ (w ⊗ b, a)
  root-mul z o a b none one =
      ap₂ (λ x y. (quadratic r w).mul (x, y) (a, b)) none one
      ∙ both (solve r (a ∷ b ∷ w ∷ []) (zeroₑ ⊠ va ⊞ vc ⊠ (oneₑ ⊠ vb)) (vc ⊠ vb) refl) (solve r (a ∷ b ∷ []) (zeroₑ ⊠ vb ⊞ oneₑ ⊠ va) va refl)
