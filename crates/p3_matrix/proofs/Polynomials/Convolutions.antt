-- Products of polynomials: the values of the convolution are the products of the values.
use Rattle.p3_matrix.proofs.Names.{◌≡◌, ℕ, zero, suc, ◌+◌, ◌-◌, ◌<◌, ◌≤◌, refl, sym, ap, ap₂, ◌∙◌, List, [], ◌∷◌, length, get_or, arith, Ring, solve, va, vb}
use Rattle.p3_matrix.proofs.Names.{vc, vd, ve, zeroₑ, ◌⊞◌, ◌⊠◌, convolution, poly, sum, value}
use Rattle.p3_matrix.proofs.Polynomials.ByIndex.{poly-add, poly-times, poly_same, poly_zeros, sum_same}
use Rattle.p3_field.proofs.Rings

module _ {A : Type 0} (R : Ring A) where
  open R use {add as ◌⊕◌, mul as ◌⊗◌, zero as 𝟘}

  infixl 60 ◌⊕◌
  infixl 70 ◌⊗◌
  sum_zeros : (n : ℕ) (t : ℕ → A) → ((j : ℕ) → j < n → t j ≡ 𝟘) → sum R n t ≡ 𝟘
  unfolding sum
  sum_zeros zero t z = refl
  sum_zeros (suc n) t z = ap₂ ◌⊕◌ (z 0 (omega arith)) (sum_zeros n (λ j. t (suc j)) (λ j h. z (suc j) (omega arith))) ∙ R.add_zero 𝟘

  -- ---- one more coefficient in front
  convolution_of_none : (b : List A) (n : ℕ) → convolution R [] b n ≡ 𝟘
  convolution_of_none b n = sum_zeros (n + 1) _ (λ j h. Rings.zero-mul R _)

  convolution_start : (c : A) (a b : List A) → convolution R (c ∷ a) b 0 ≡ c ⊗ get_or b 0 𝟘
  unfolding sum
  convolution_start c a b = R.add_zero _

  convolution_next : (c : A) (a b : List A) (n : ℕ) → convolution R (c ∷ a) b (suc n) ≡ c ⊗ get_or b (suc n) 𝟘 ⊕ convolution R a b n
  unfolding sum
  convolution_next c a b n =
      let count : suc n + 1 ≡ suc (n + 1) = omega arith in
      let first : suc n - 0 ≡ suc n = omega arith in
      let later : (j : ℕ) → suc n - suc j ≡ n - j = λ j. omega arith in
      ap (λ k. sum R k (λ i. get_or (c ∷ a) i 𝟘 ⊗ get_or b (suc n - i) 𝟘)) count
      ∙ ap₂ ◌⊕◌ (ap (λ k. c ⊗ get_or b k 𝟘) first) (sum_same R (n + 1) _ _ (λ j l. ap (λ k. get_or a j 𝟘 ⊗ get_or b k 𝟘) (later j)))

  -- ---- values
  -- coefficients up to any bound, zeros past the end
  pub value_within : (n : ℕ) (cs : List A) (x : A) → length cs ≤ n → poly R n (λ j. get_or cs j 𝟘) x ≡ value R cs x
  unfolding value poly
  value_within n [] x h = poly_zeros R n (λ j. 𝟘) x (λ j b. refl)
  value_within zero (c ∷ cs) x h = absurd (omega (arith, h))
  value_within (suc n) (c ∷ cs) x h = ap (λ y. c ⊕ x ⊗ y) (value_within n cs x (omega (arith, h)))

  -- the first n coefficients of a product, if it has no others, have its value
  pub product_by_index : (n : ℕ) (a b : List A) (x : A) → length a + length b ≤ n + 1 → poly R n (convolution R a b) x ≡ value R a x ⊗ value R b x
  unfolding value poly
  product_by_index n [] b x h = poly_zeros R n (convolution R [] b) x (λ j l. convolution_of_none b j) ∙ sym (Rings.zero-mul R _)
  product_by_index zero (c ∷ []) [] x h = sym (Rings.mul-zero R _)
  product_by_index zero (c ∷ []) (d ∷ b) x h = absurd (omega (arith, h))
  product_by_index zero (c ∷ e ∷ a) b x h = absurd (omega (arith, h))
  product_by_index (suc n) (c ∷ a) b x h =
      ap₂ (λ u v. u ⊕ x ⊗ v) (convolution_start c a b)
      (poly_same R n (λ j. convolution R (c ∷ a) b (suc j)) (λ j. c ⊗ get_or b (suc j) 𝟘 ⊕ convolution R a b j) x (λ j l. convolution_next c a b j)
      ∙ poly-add R n (λ j. c ⊗ get_or b (suc j) 𝟘) (convolution R a b) x
      ∙ ap₂ ◌⊕◌ (poly-times R n c (λ j. get_or b (suc j) 𝟘) x) (product_by_index n a b x (omega (arith, h))))
      ∙ solve R (c ∷ get_or b 0 𝟘 ∷ x ∷ poly R n (λ j. get_or b (suc j) 𝟘) x ∷ value R a x ⊗ value R b x ∷ [])
      (va ⊠ vb ⊞ vc ⊠ (va ⊠ vd ⊞ ve)) (va ⊠ (vb ⊞ vc ⊠ vd) ⊞ vc ⊠ ve) refl
      ∙ ap (λ y. c ⊗ y ⊕ x ⊗ (value R a x ⊗ value R b x)) (value_within (suc n) b x (omega (arith, h)))
      ∙ solve R (c ∷ value R b x ∷ x ∷ value R a x ∷ []) (va ⊠ vb ⊞ vc ⊠ (vd ⊠ vb)) ((va ⊞ vc ⊠ vd) ⊠ vb) refl

  -- the product has no others: one less than both have together
  pub convolution_past : (a b : List A) (n : ℕ) → length a + length b ≤ n + 1 → convolution R a b n ≡ 𝟘
  convolution_past [] b n h = convolution_of_none b n
  convolution_past (c ∷ []) [] zero h = convolution_start c [] [] ∙ Rings.mul-zero R c
  convolution_past (c ∷ []) (d ∷ b) zero h = absurd (omega (arith, h))
  convolution_past (c ∷ e ∷ a) b zero h = absurd (omega (arith, h))
  convolution_past (c ∷ a) b (suc n) h =
      convolution_next c a b n ∙ ap₂ (λ u v. c ⊗ u ⊕ v) (get_or_past b (suc n) (omega (arith, h))) (convolution_past a b n (omega (arith, h)))
      ∙ solve R (c ∷ []) (va ⊠ zeroₑ ⊞ zeroₑ) zeroₑ refl
    where
      get_or_past : (xs : List A) (k : ℕ) → length xs ≤ k → get_or xs k 𝟘 ≡ 𝟘
      get_or_past [] k l = refl
      get_or_past (x ∷ xs) zero l = absurd (omega (arith, l))
      get_or_past (x ∷ xs) (suc k) l = get_or_past xs k (omega (arith, l))
