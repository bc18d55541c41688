-- Polynomials by index, which proofs use since an index can be shifted, doubled or reversed under a λ: that they are those by
-- list, and what becomes of a value when the coefficients are cut, added, scaled or padded.
use Rattle.p3_matrix.proofs.Names.{◌≡◌, ℕ, zero, suc, ◌+◌, ◌*◌, ◌-◌, ◌<◌, ◌≤◌, refl, sym, ap, ap₂, ◌∙◌, List, [], ◌∷◌, length, get_or, map, arith, suc-add}
use Rattle.p3_matrix.proofs.Names.{zero-add, range_with_len, length-map-range_with_len, get_or-map-range_with_len, Ring, power, solve, va, vb, vc, vd, ve}
use Rattle.p3_matrix.proofs.Names.{zeroₑ, ◌⊞◌, ◌⊠◌, ⊝, sum, value, poly}
use Rattle.p3_field.proofs.Rings

module _ {A : Type 0} (R : Ring A) where
  open R use {add as ◌⊕◌, mul as ◌⊗◌, neg, zero as 𝟘, one as 𝟙}

  infixl 60 ◌⊕◌
  infixl 70 ◌⊗◌
  pub value-poly : (cs : List A) (d x : A) → value R cs x ≡ poly R (length cs) (λ j. get_or cs j d) x
  unfolding value poly
  value-poly [] d x = refl
  value-poly (c ∷ cs) d x = ap (λ y. c ⊕ x ⊗ y) (value-poly cs d x)

  -- equal below the bound
  pub poly_same : (n : ℕ) (f h : ℕ → A) (x : A) → ((j : ℕ) → j < n → f j ≡ h j) → poly R n f x ≡ poly R n h x
  unfolding poly
  poly_same zero f h x e = refl
  poly_same (suc n) f h x e = ap₂ (λ a b. a ⊕ x ⊗ b) (e 0 (omega arith)) (poly_same n (λ j. f (suc j)) (λ j. h (suc j)) x (λ j l. e (suc j) (omega arith)))

  pub sum_same : (n : ℕ) (f h : ℕ → A) → ((j : ℕ) → j < n → f j ≡ h j) → sum R n f ≡ sum R n h
  unfolding sum
  sum_same zero f h e = refl
  sum_same (suc n) f h e = ap₂ ◌⊕◌ (e 0 (omega arith)) (sum_same n (λ j. f (suc j)) (λ j. h (suc j)) (λ j l. e (suc j) (omega arith)))

  -- ---- one after another
  pub poly-append : (m n : ℕ) (f : ℕ → A) (x : A) → poly R (m + n) f x ≡ poly R m f x ⊕ power R x m ⊗ poly R n (λ j. f (m + j)) x
  unfolding poly power
  poly-append zero n f x =
      ap (λ k. poly R k f x) (zero-add n) ∙ poly_same n f (λ j. f (0 + j)) x (λ j l. ap f (sym (zero-add j)))
      ∙ sym (Rings.zero-add R _ ∙ Rings.one-mul R _)
  poly-append (suc m) n f x = ap (λ k. poly R k f x) (suc-add m n) ∙ ap (λ y. f 0 ⊕ x ⊗ y) (poly-append m n (λ j. f (suc j)) x)
      ∙ ap (λ y. f 0 ⊕ x ⊗ (poly R m (λ j. f (suc j)) x ⊕ power R x m ⊗ y)) (poly_same n _ _ x (λ j l. ap f (sym (suc-add m j))))
      ∙ solve R (f 0 ∷ x ∷ poly R m (λ j. f (suc j)) x ∷ power R x m ∷ poly R n (λ j. f (suc m + j)) x ∷ [])
      (va ⊞ vb ⊠ (vc ⊞ vd ⊠ ve)) ((va ⊞ vb ⊠ vc) ⊞ (vb ⊠ vd) ⊠ ve) refl

  -- ---- even and odd places
  pub poly-split : (n : ℕ) (f : ℕ → A) (x : A) → poly R (2 * n) f x ≡ poly R n (λ j. f (2 * j)) (x ⊗ x) ⊕ x ⊗ poly R n (λ j. f (2 * j + 1)) (x ⊗ x)
  unfolding poly
  poly-split zero f x = solve R (x ∷ []) zeroₑ (zeroₑ ⊞ va ⊠ zeroₑ) refl
  poly-split (suc n) f x =
      let e : 2 * suc n ≡ suc (suc (2 * n)) = omega arith in
      ap (λ k. poly R k f x) e ∙ ap (λ y. f 0 ⊕ x ⊗ (f 1 ⊕ x ⊗ y)) (poly-split n (λ j. f (suc (suc j))) x)
      ∙ ap₂ (λ y z. f 0 ⊕ x ⊗ (f 1 ⊕ x ⊗ (y ⊕ x ⊗ z))) (poly_same n _ _ (x ⊗ x) (λ j l. ap f (omega arith)))
      (poly_same n _ _ (x ⊗ x) (λ j l. ap f (omega arith)))
      ∙ solve R (f 0 ∷ x ∷ f 1 ∷ poly R n (λ j. f (2 * suc j)) (x ⊗ x) ∷ poly R n (λ j. f (2 * suc j + 1)) (x ⊗ x) ∷ [])
      (va ⊞ vb ⊠ (vc ⊞ vb ⊠ (vd ⊞ vb ⊠ ve))) ((va ⊞ (vb ⊠ vb) ⊠ vd) ⊞ vb ⊠ (vc ⊞ (vb ⊠ vb) ⊠ ve)) refl

  -- ---- linear in the coefficients, and a scaled argument
  pub poly-add : (n : ℕ) (f h : ℕ → A) (x : A) → poly R n (λ j. f j ⊕ h j) x ≡ poly R n f x ⊕ poly R n h x
  unfolding poly
  poly-add zero f h x = sym (R.add_zero 𝟘)
  poly-add (suc n) f h x = ap (λ y. (f 0 ⊕ h 0) ⊕ x ⊗ y) (poly-add n (λ j. f (suc j)) (λ j. h (suc j)) x)
      ∙ solve R (f 0 ∷ h 0 ∷ x ∷ poly R n (λ j. f (suc j)) x ∷ poly R n (λ j. h (suc j)) x ∷ [])
      ((va ⊞ vb) ⊞ vc ⊠ (vd ⊞ ve)) ((va ⊞ vc ⊠ vd) ⊞ (vb ⊞ vc ⊠ ve)) refl

  pub poly-times : (n : ℕ) (a : A) (f : ℕ → A) (x : A) → poly R n (λ j. a ⊗ f j) x ≡ a ⊗ poly R n f x
  unfolding poly
  poly-times zero a f x = sym (Rings.mul-zero R a)
  poly-times (suc n) a f x = ap (λ y. a ⊗ f 0 ⊕ x ⊗ y) (poly-times n a (λ j. f (suc j)) x)
      ∙ solve R (a ∷ f 0 ∷ x ∷ poly R n (λ j. f (suc j)) x ∷ []) (va ⊠ vb ⊞ vc ⊠ (va ⊠ vd)) (va ⊠ (vb ⊞ vc ⊠ vd)) refl

  pub poly-scaled : (n : ℕ) (f : ℕ → A) (s x : A) → poly R n (λ j. f j ⊗ power R s j) x ≡ poly R n f (s ⊗ x)
  unfolding poly power
  poly-scaled zero f s x = refl
  poly-scaled (suc n) f s x =
      ap₂ (λ a b. a ⊕ x ⊗ b) (R.mul_one (f 0)) (poly_same n _ _ x (λ j l. Rings.mul_left_comm R _ _ _)
      ∙ poly-times n s (λ j. f (suc j) ⊗ power R s j) x ∙ ap (λ y. s ⊗ y) (poly-scaled n (λ j. f (suc j)) s x))
      ∙ solve R (f 0 ∷ x ∷ s ∷ poly R n (λ j. f (suc j)) (s ⊗ x) ∷ []) (va ⊞ vb ⊠ (vc ⊠ vd)) (va ⊞ (vc ⊠ vb) ⊠ vd) refl

  pub poly-none : (f : ℕ → A) (x : A) → poly R 0 f x ≡ 𝟘
  unfolding poly
  poly-none f x = refl

  pub poly-one : (f : ℕ → A) (x : A) → poly R 1 f x ≡ f 0
  unfolding poly
  poly-one f x = ap (λ y. f 0 ⊕ y) (Rings.mul-zero R x) ∙ R.add_zero _

  pub poly-neg : (n : ℕ) (f : ℕ → A) (x : A) → poly R n (λ j. neg (f j)) x ≡ neg (poly R n f x)
  unfolding poly
  poly-neg zero f x = sym (Rings.neg-zero R)
  poly-neg (suc n) f x = ap (λ y. neg (f 0) ⊕ x ⊗ y) (poly-neg n (λ j. f (suc j)) x)
      ∙ solve R (f 0 ∷ x ∷ poly R n (λ j. f (suc j)) x ∷ []) (⊝ va ⊞ vb ⊠ ⊝ vc) (⊝ (va ⊞ vb ⊠ vc)) refl

  -- one more coefficient, as a running sum takes it
  pub poly-more : (n : ℕ) (f : ℕ → A) (x : A) → poly R (n + 1) f x ≡ poly R n f x ⊕ power R x n ⊗ f n
  poly-more n f x = poly-append n 1 f x ∙ ap (λ y. poly R n f x ⊕ power R x n ⊗ y) (poly-one (λ j. f (n + j)) x ∙ ap f (omega arith))

  -- the value of a list that a function gives
  pub value-index : (n : ℕ) (f : ℕ → A) (x : A) → value R (map f (range_with_len 0 n)) x ≡ poly R n f x
  value-index n f x =
      value-poly (map f (range_with_len 0 n)) 𝟘 x ∙ ap (λ k. poly R k (λ j. get_or (map f (range_with_len 0 n)) j 𝟘) x) (length-map-range_with_len f 0 n)
      ∙ poly_same n _ f x (λ j h. get_or-map-range_with_len f 0 n j j 𝟘 h (omega arith))

  pub poly_zeros : (n : ℕ) (f : ℕ → A) (x : A) → ((j : ℕ) → j < n → f j ≡ 𝟘) → poly R n f x ≡ 𝟘
  unfolding poly
  poly_zeros zero f x z = refl
  poly_zeros (suc n) f x z =
      ap₂ (λ a b. a ⊕ x ⊗ b) (z 0 (omega arith)) (poly_zeros n (λ j. f (suc j)) x (λ j h. z (suc j) (omega arith)))
      ∙ solve R (x ∷ []) (zeroₑ ⊞ va ⊠ zeroₑ) zeroₑ refl

  pub poly_padded : (m n : ℕ) (f : ℕ → A) (x : A) → ((j : ℕ) → m ≤ j → j < m + n → f j ≡ 𝟘) → poly R (m + n) f x ≡ poly R m f x
  poly_padded m n f x z =
      poly-append m n f x
      ∙ ap (λ y. poly R m f x ⊕ power R x m ⊗ y)
      (poly_zeros n (λ j. f (m + j)) x (λ j h. z (m + j) (omega arith) (omega arith)))
      ∙ solve R (poly R m f x ∷ power R x m ∷ []) (va ⊞ vb ⊠ zeroₑ) va refl

  -- the first n coefficients, with zeros behind them
  pub first_of : ℕ → (ℕ → A) → ℕ → A
  first_of zero f j = 𝟘
  first_of (suc n) f zero = f 0
  first_of (suc n) f (suc j) = first_of n (λ i. f (suc i)) j

  pub first_inside : (n : ℕ) (f : ℕ → A) (j : ℕ) → j < n → first_of n f j ≡ f j
  unfolding first_of
  first_inside zero f j below = absurd (omega arith)
  first_inside (suc n) f zero below = refl
  first_inside (suc n) f (suc j) below = first_inside n (λ i. f (suc i)) j (omega arith)

  pub first_behind : (n : ℕ) (f : ℕ → A) (j : ℕ) → n ≤ j → first_of n f j ≡ 𝟘
  unfolding first_of
  first_behind zero f j after = refl
  first_behind (suc n) f zero after = absurd (omega arith)
  first_behind (suc n) f (suc j) after = first_behind n (λ i. f (suc i)) j (omega arith)

  pub poly_of_first : (m n : ℕ) (f : ℕ → A) (x : A) → m ≤ n → poly R n (first_of m f) x ≡ poly R m f x
  poly_of_first m n f x fewer =
      let all : n ≡ m + (n - m) = omega (arith, fewer) in
      ap (λ k. poly R k (first_of m f) x) all ∙ poly_padded m (n - m) (first_of m f) x (λ j after below. first_behind m f j after)
      ∙ poly_same m (first_of m f) f x (first_inside m f)
