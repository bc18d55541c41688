-- Products of the first values of a list, and how the inverse of the last one gives the inverse of each value.
use Rattle.p3_field.proofs.Names.{◌≡◌, ℕ, zero, suc, ◌+◌, ◌<◌, ◌≤◌, List, [], ◌∷◌, length, get_or, set, refl, ap, ap₂, sym, subst, ◌∙◌, inl, inr, arith}
use Rattle.p3_field.proofs.Names.{add-one, cases_lt, get_or-set_other, get_or-set_same, Ring, IsInverse, IsInvertible}
use Rattle.p3_field.proofs.RingSolver.{solve, va, vb, vc, vd, ◌⊠◌}
use borrow.Author.Count.{below_more}

module _ {A : Type 0} (R : Ring A) where
  open R use {mul as ◌⊗◌, one as 𝟙}

  infixl 70 ◌⊗◌
  -- the product of the first n values
  unfoldable pub first_product : (ℕ → A) → ℕ → A
  first_product f zero = 𝟙
  first_product f (suc n) = first_product f n ⊗ f n

  pub first_product-none : (f : ℕ → A) (x : A) → x ≡ 𝟙 → x ≡ first_product f 0
  unfolding first_product
  first_product-none f x one = one

  first_product-suc : (f : ℕ → A) (n : ℕ) → first_product f (suc n) ≡ first_product f n ⊗ f n
  unfolding first_product
  first_product-suc f n = refl

  pub first_product-more : (f : ℕ → A) (n : ℕ) (x y : A) → x ≡ first_product f n → y ≡ x ⊗ f n → y ≡ first_product f (n + 1)
  first_product-more f n x y so_far is = is ∙ ap (λ z. z ⊗ f n) so_far ∙ sym (ap (first_product f) (add-one n) ∙ first_product-suc f n)

  -- the inverse of the product up to value i gives that of value i, and that of the product before it
  pub inverse_of_last : (f : ℕ → A) (n i : ℕ) (inverse before y : A) → n ≡ suc i → IsInverse R (first_product f n) inverse → before ≡ first_product f i
      → y ≡ before ⊗ inverse → IsInverse R (f i) y
  inverse_of_last f n i inverse before y next whole is made =
      let P = first_product f i in
      ap (λ z. f i ⊗ z) (made ∙ ap (λ z. z ⊗ inverse) is) ∙ sym (R.mul_assoc (f i) P inverse)
      ∙ ap (λ z. z ⊗ inverse) (R.mul_comm (f i) P ∙ sym (ap (first_product f) next ∙ first_product-suc f i)) ∙ whole

  pub inverse_before : (f : ℕ → A) (n i : ℕ) (inverse y : A) → n ≡ suc i → IsInverse R (first_product f n) inverse → y ≡ inverse ⊗ f i
      → IsInverse R (first_product f i) y
  inverse_before f n i inverse y next whole made =
      let P = first_product f i in
      ap (λ z. P ⊗ z) (made ∙ R.mul_comm inverse (f i)) ∙ sym (R.mul_assoc P (f i) inverse)
      ∙ ap (λ z. z ⊗ inverse) (sym (ap (first_product f) next ∙ first_product-suc f i)) ∙ whole

  -- the product has an inverse exactly where each factor has one
  pub invertible_product : (f : ℕ → A) (n : ℕ) → ((i : ℕ) → i < n → IsInvertible R (f i)) → IsInvertible R (first_product f n)
  unfolding first_product
  invertible_product f zero each = (𝟙, R.mul_one 𝟙)
  invertible_product f (suc n) each =
      let before = invertible_product f n (λ i below. each i (omega (arith, below))) in
      let last = each n (omega arith) in (
        before.0 ⊗ last.0,
        solve R (first_product f n ∷ f n ∷ before.0 ∷ last.0 ∷ []) ((va ⊠ vb) ⊠ (vc ⊠ vd)) ((va ⊠ vc) ⊠ (vb ⊠ vd)) refl
            ∙ ap₂ ◌⊗◌ before.1 last.1 ∙ R.mul_one 𝟙,
      )

  pub invertible_factors : (f : ℕ → A) (n : ℕ) → IsInvertible R (first_product f n) → (i : ℕ) → i < n → IsInvertible R (f i)
  invertible_factors f zero whole i below = absurd (omega (arith, below))
  invertible_factors f (suc n) whole i below =
      below_more (λ k. IsInvertible R (f k)) n
      (invertible_factors f n (whole.0 ⊗ f n, inverse_before f (suc n) n whole.0 (whole.0 ⊗ f n) refl whole.1 refl))
      (first_product f n ⊗ whole.0, inverse_of_last f (suc n) n whole.0 (first_product f n) (first_product f n ⊗ whole.0) refl whole.1 refl refl)
      i (omega (arith, below))

-- place i takes the inverse of value i, and each place behind it has that of its value
module _ {S A : Type 0} (R : Ring A) (value : S → A) (z : S) (f : ℕ → A) (now : List S) (n i : ℕ) (y : S) (next : n ≡ suc i) where
  pub still_before : ((j : ℕ) → j < n → value (get_or now j z) ≡ first_product R f j)
      → (j : ℕ) → j < i → value (get_or (set now i y) j z) ≡ first_product R f j
  still_before before j less = ap value (get_or-set_other now i j y z (λ same. absurd (omega (arith, same, less)))) ∙ before j (omega (arith, less, next))

  pub one_more_done : (m : ℕ) → i < length now → ((j : ℕ) → n ≤ j → j < m → IsInverse R (f j) (value (get_or now j z))) → IsInverse R (f i) (value y)
      → (j : ℕ) → i ≤ j → j < m → IsInverse R (f j) (value (get_or (set now i y) j z))
  one_more_done m inside done here j from below =
      elim (cases_lt i j) [
        | inl less ↦ ap (λ x. R.mul (f j) (value x)) (get_or-set_other now i j y z (λ same. absurd (omega (arith, same, less))))
            ∙ done j (omega (arith, less, next)) below
        | inr reached ↦
            let same : i ≡ j = omega arith in
            subst (λ k. IsInverse R (f k) (value (get_or (set now i y) k z))) same (ap (λ x. R.mul (f i) (value x)) (get_or-set_same now i y z inside) ∙ here)
      ]
