-- Interpolation: N values on a coset of order N, of an invertible shift, are those of exactly one list of N coefficients.
-- Transforming with the roots g and then with their inverses h gives each coefficient, doubled n times: by halves, on the even
-- and the odd places. Halving is exact in the ring, so this gives uniqueness, and with g and h swapped existence.
use Rattle.p3_matrix.proofs.Names.{◌≡◌, ℕ, zero, suc, ◌+◌, ◌*◌, ◌-◌, ◌<◌, ◌≤◌, ◌^◌, refl, sym, ap, ap₂, ◌∙◌, [], ◌∷◌, arith, ◌⊎◌, inl, inr, pow_pos, Ring}
use Rattle.p3_matrix.proofs.Names.{power, count, two, AreRoots, IsInverse, IsInvertible, solve, solve_by, va, vb, vc, vd, oneₑ, ◌⊞◌, ◌⊠◌, ◌⊟◌, ⊝, power-zero}
use Rattle.p3_matrix.proofs.Names.{power-suc, power_of_one, power-mul, power-inverse, count-power_of_two, even_or_odd, AreInverseRoots, inverse_roots_sym}
use Rattle.p3_matrix.proofs.Names.{inverse_root, inverse_roots, inverse_undoes, inverse_power, root_twice, root_across, root_round, root_squared, root_all}
use Rattle.p3_matrix.proofs.Names.{doubled, doubled_add, doubled-power, halved, halved-power, halved-doubled, Matrix, Same, poly, point, IsValues}
use Rattle.p3_matrix.proofs.Names.{AreCoefficients, coset_shift}
use Rattle.p3_matrix.proofs.Polynomials.ByIndex.{poly_same, poly-one, poly-append, poly-split, poly-add, poly-neg, poly-times, poly-scaled}
use Rattle.p3_matrix.proofs.Rows.OppositePlaces.{opposite, opposite-zero, opposite_above_zero, opposite-lt}
use Rattle.p3_matrix.proofs.Polynomials.Cosets.{point-mul, point_of_one, entry-poly, is_values, values_same, coefficients_same, coset_values}
use Rattle.p3_field.proofs.Rings

-- the values of c at the powers of the n-th root
unfoldable pub transform : {A : Type 0} → Ring A → (ℕ → A) → ℕ → (ℕ → A) → ℕ → A
transform R g n c k = poly R (2 ^ n) c (power R (g n) k)

pub transform_is : {A : Type 0} (R : Ring A) (g : ℕ → A) (n : ℕ) (c : ℕ → A) (k : ℕ) → transform R g n c k ≡ poly R (2 ^ n) c (power R (g n) k)
unfolding transform
transform_is R g n c k = refl

-- the values of c on the coset of s
unfoldable pub values_at : {A : Type 0} → Ring A → (ℕ → A) → ℕ → A → (ℕ → A) → ℕ → A
values_at R g n s c k = poly R (2 ^ n) c (point R g n s k)

pub values_at_is : {A : Type 0} (R : Ring A) (g : ℕ → A) (n : ℕ) (s : A) (c : ℕ → A) (k : ℕ) → values_at R g n s c k ≡ poly R (2 ^ n) c (point R g n s k)
unfolding values_at
values_at_is R g n s c k = refl

-- the coefficients of the values y on the coset of s, where h are the inverse roots and t is the inverse of s
unfoldable pub coefficients : {A : Type 0} → Ring A → (ℕ → A) → ℕ → A → (ℕ → A) → ℕ → A
coefficients R h n t y j = R.mul (halved R n (transform R h n y j)) (power R t j)

pub coefficients_are : {A : Type 0} (R : Ring A) (h : ℕ → A) (n : ℕ) (t : A) (y : ℕ → A) (j : ℕ)
    → coefficients R h n t y j ≡ R.mul (halved R n (transform R h n y j)) (power R t j)
unfolding coefficients
coefficients_are R h n t y j = refl

module _ {A : Type 0} (R : Ring A) where
  open R use {add as ◌⊕◌, mul as ◌⊗◌, neg, zero as 𝟘, one as 𝟙}

  infixl 60 ◌⊕◌
  infixl 70 ◌⊗◌
  transform_same : (g : ℕ → A) (n : ℕ) (c d : ℕ → A) → ((k : ℕ) → k < 2 ^ n → c k ≡ d k) → (j : ℕ) → transform R g n c j ≡ transform R g n d j
  transform_same g n c d e j = transform_is R g n c j ∙ poly_same R (2 ^ n) c d _ e ∙ sym (transform_is R g n d j)

module _ {A : Type 0} (R : Ring A) {g : ℕ → A} {bits : ℕ} (G : AreRoots R bits g) where
  open R use {add as ◌⊕◌, mul as ◌⊗◌, neg, zero as 𝟘, one as 𝟙}

  infixl 60 ◌⊕◌
  infixl 70 ◌⊗◌
  -- at a root's power, the halves of a polynomial: its even and its odd places
  pub transform_near : (n : ℕ) (c : ℕ → A) (k : ℕ) → n < bits
      → transform R g (suc n) c k
      ≡ transform R g n (λ j. c (2 * j)) k ⊕ power R (g (suc n)) k ⊗ transform R g n (λ j. c (2 * j + 1)) k
  unfolding transform
  transform_near n c k b = let e : 2 ^ suc n ≡ 2 * 2 ^ n = omega arith in
      ap (λ m. poly R m c (power R (g (suc n)) k)) e ∙ poly-split R (2 ^ n) c _
      ∙ ap (λ x. poly R (2 ^ n) (λ j. c (2 * j)) x ⊕ power R (g (suc n)) k ⊗ poly R (2 ^ n) (λ j. c (2 * j + 1)) x) (root_squared R G n k b)

  pub transform_round : (n : ℕ) (c : ℕ → A) (k : ℕ) → n ≤ bits → transform R g n c (2 ^ n + k) ≡ transform R g n c k
  unfolding transform
  transform_round n c k b = ap (poly R (2 ^ n) c) (root_round R G n k b)

  pub transform_far : (n : ℕ) (c : ℕ → A) (k : ℕ) → n < bits
      → transform R g (suc n) c (2 ^ n + k)
      ≡ transform R g n (λ j. c (2 * j)) k ⊕ neg (power R (g (suc n)) k ⊗ transform R g n (λ j. c (2 * j + 1)) k)
  transform_far n c k b = transform_near n c (2 ^ n + k) b
      ∙ ap₂ ◌⊕◌ (transform_round n _ k (omega arith)) (ap₂ ◌⊗◌ (root_across R G n k b) (transform_round n _ k (omega arith)) ∙ Rings.neg-mul R _ _)

  -- the two halves of the sum over the values
  invert_halves : (n : ℕ) (c : ℕ → A) (z : A) → n < bits →
      poly R (2 ^ suc n) (transform R g (suc n) c) z
      ≡ (poly R (2 ^ n) (transform R g n (λ m. c (2 * m))) z ⊕ poly R (2 ^ n) (λ k. power R (g (suc n)) k ⊗ transform R g n (λ m. c (2 * m + 1)) k) z)
      ⊕ power R z (2 ^ n) ⊗ (poly R (2 ^ n) (transform R g n (λ m. c (2 * m))) z ⊕ neg
      (poly R (2 ^ n) (λ k. power R (g (suc n)) k ⊗ transform R g n (λ m. c (2 * m + 1)) k) z))
  invert_halves n c z b =
      let E = transform R g n (λ m. c (2 * m)) in
      let O = λ (k : ℕ). power R (g (suc n)) k ⊗ transform R g n (λ m. c (2 * m + 1)) k in
      let e : 2 ^ suc n ≡ 2 ^ n + 2 ^ n = omega arith in
      ap (λ m. poly R m (transform R g (suc n) c) z) e ∙ poly-append R (2 ^ n) (2 ^ n) (transform R g (suc n) c) z
      ∙ ap₂ (λ x y. x ⊕ power R z (2 ^ n) ⊗ y)
      (poly_same R (2 ^ n) _ (λ k. E k ⊕ O k) z (λ k l. transform_near n c k b) ∙ poly-add R (2 ^ n) E O z)
      (poly_same R (2 ^ n) _ (λ k. E k ⊕ neg (O k)) z (λ k l. transform_far n c k b)
      ∙ poly-add R (2 ^ n) E (λ k. neg (O k)) z ∙ ap (λ x. poly R (2 ^ n) E z ⊕ x) (poly-neg R (2 ^ n) O z))

module _ {A : Type 0} (R : Ring A) {g h : ℕ → A} {bits : ℕ} (G : AreRoots R bits g) (H : AreRoots R bits h) (I : AreInverseRoots R bits g h) where
  open R use {add as ◌⊕◌, mul as ◌⊗◌, neg, zero as 𝟘, one as 𝟙}

  infixl 60 ◌⊕◌
  infixl 70 ◌⊗◌
  invert_even : (n : ℕ) (c : ℕ → A) (j : ℕ) → n < bits
      → transform R h (suc n) (transform R g (suc n) c) (2 * j)
      ≡ transform R h n (transform R g n (λ m. c (2 * m))) j ⊕ transform R h n (transform R g n (λ m. c (2 * m))) j
  invert_even n c j b =
      let z = power R (h n) j in
      let O = λ (k : ℕ). power R (g (suc n)) k ⊗ transform R g n (λ m. c (2 * m + 1)) k in
      let E = transform R g n (λ m. c (2 * m)) in
      let one : power R z (2 ^ n) ≡ 𝟙 = sym (power-mul R (h n) j (2 ^ n)) ∙ root_all R H n j (omega arith) in
      transform_is R h (suc n) (transform R g (suc n) c) (2 * j)
      ∙ ap (poly R (2 ^ suc n) (transform R g (suc n) c)) (root_twice R H n j b) ∙ invert_halves R G n c z b
      ∙ ap (λ x. (poly R (2 ^ n) E z ⊕ poly R (2 ^ n) O z) ⊕ x ⊗ (poly R (2 ^ n) E z ⊕ neg (poly R (2 ^ n) O z))) one
      ∙ solve R (poly R (2 ^ n) E z ∷ poly R (2 ^ n) O z ∷ []) ((va ⊞ vb) ⊞ oneₑ ⊠ (va ⊟ vb)) (va ⊞ va) refl
      ∙ ap (λ x. x ⊕ x) (sym (transform_is R h n E j))

  invert_odd : (n : ℕ) (c : ℕ → A) (j : ℕ) → n < bits
      → transform R h (suc n) (transform R g (suc n) c) (2 * j + 1)
      ≡ transform R h n (transform R g n (λ m. c (2 * m + 1))) j ⊕ transform R h n
      (transform R g n (λ m. c (2 * m + 1))) j
  invert_odd n c j b =
      let w = g (suc n) in
      let u = h (suc n) in
      let z = power R u (2 * j + 1) in
      let V = transform R g n (λ m. c (2 * m + 1)) in
      let O = λ (k : ℕ). power R w k ⊗ V k in
      let E = transform R g n (λ m. c (2 * m)) in
      let e : (2 * j + 1) * 2 ^ n ≡ 2 ^ n + j * (2 * 2 ^ n) = omega arith in
      let d : 2 * 2 ^ n ≡ 2 ^ suc n = omega arith in
      let odd : 2 * j + 1 ≡ suc (2 * j) = omega arith in
      let minus : power R z (2 ^ n) ≡ neg 𝟙 =
      sym (power-mul R u (2 * j + 1) (2 ^ n)) ∙ ap (power R u) e ∙ root_across R H n (j * (2 * 2 ^ n)) b
      ∙ ap (λ k. neg (power R u (j * k))) d ∙ ap neg (root_all R H (suc n) j b) in
      let back : w ⊗ z ≡ power R (h n) j =
      ap (λ k. w ⊗ power R u k) odd ∙ ap (λ x. w ⊗ x) (power-suc R u (2 * j))
      ∙ sym (R.mul_assoc w u (power R u (2 * j))) ∙ ap₂ ◌⊗◌ (I.undo (suc n) b) (root_twice R H n j b)
      ∙ Rings.one-mul R _ in
      let inner : poly R (2 ^ n) O z ≡ transform R h n V j =
      poly_same R (2 ^ n) O (λ k. V k ⊗ power R w k) z (λ k l. R.mul_comm _ _) ∙ poly-scaled R (2 ^ n) V w z
      ∙ ap (poly R (2 ^ n) V) back ∙ sym (transform_is R h n V j) in
      transform_is R h (suc n) (transform R g (suc n) c) (2 * j + 1) ∙ invert_halves R G n c z b
      ∙ ap₂ (λ x y. (poly R (2 ^ n) E z ⊕ y) ⊕ x ⊗ (poly R (2 ^ n) E z ⊕ neg y)) minus inner
      ∙ solve R (poly R (2 ^ n) E z ∷ transform R h n V j ∷ []) ((va ⊞ vb) ⊞ (⊝ oneₑ) ⊠ (va ⊟ vb)) (vb ⊞ vb) refl

  invert_zero : (c : ℕ → A) (j : ℕ) → j < 1 → transform R h 0 (transform R g 0 c) j ≡ c j
  unfolding transform
  invert_zero c j l = let e : j ≡ 0 = omega arith in poly-one R _ _ ∙ poly-one R _ _ ∙ ap c (sym e)

  pub invert : (n : ℕ) (c : ℕ → A) (j : ℕ) → n ≤ bits → j < 2 ^ n → transform R h n (transform R g n c) j ≡ doubled R n (c j)
  unfolding doubled
  invert zero c j b l = invert_zero c j l
  invert (suc n) c j b l = go (λ d k. invert n d k (omega arith)) (even_or_odd j)
    where
      go : ((d : ℕ → A) (k : ℕ) → k < 2 ^ n → transform R h n (transform R g n d) k ≡ doubled R n (d k))
          → ((k : ℕ) × j ≡ 2 * k) ⊎ ((k : ℕ) × j ≡ 2 * k + 1)
          → transform R h (suc n) (transform R g (suc n) c) j ≡ doubled R n (c j ⊕ c j)
      go ih (inl (k, e)) =
          ap (transform R h (suc n) (transform R g (suc n) c)) e ∙ invert_even n c k b
          ∙ ap (λ x. x ⊕ x) (ih (λ m. c (2 * m)) k (omega arith)) ∙ sym (doubled_add R n _ _)
          ∙ ap (λ x. doubled R n (c x ⊕ c x)) (sym e)
      go ih (inr (k, e)) =
          ap (transform R h (suc n) (transform R g (suc n) c)) e ∙ invert_odd n c k b
          ∙ ap (λ x. x ⊕ x) (ih (λ m. c (2 * m + 1)) k (omega arith)) ∙ sym (doubled_add R n _ _)
          ∙ ap (λ x. doubled R n (c x ⊕ c x)) (sym e)

module _ {A : Type 0} (R : Ring A) {g h : ℕ → A} {bits : ℕ} (G : AreRoots R bits g) (H : AreRoots R bits h) (I : AreInverseRoots R bits g h) where
  open R use {add as ◌⊕◌, mul as ◌⊗◌, neg, zero as 𝟘, one as 𝟙}

  infixl 60 ◌⊕◌
  infixl 70 ◌⊗◌
  values_at-scaled : (n : ℕ) (s : A) (c : ℕ → A) (k : ℕ) → values_at R g n s c k ≡ transform R g n (λ j. c j ⊗ power R s j) k
  values_at-scaled n s c k =
      values_at_is R g n s c k ∙ ap (poly R (2 ^ n) c) (point-mul R g n s k) ∙ sym (poly-scaled R (2 ^ n) c s (power R (g n) k))
      ∙ sym (transform_is R g n (λ j. c j ⊗ power R s j) k)

  -- they are the coefficients from which the values came
  pub coefficients-values_at : (n : ℕ) (s t : A) → s ⊗ t ≡ 𝟙 → (c : ℕ → A) (j : ℕ) → n ≤ bits → j < 2 ^ n → coefficients R h n t (values_at R g n s c) j ≡ c j
  coefficients-values_at n s t e c j b l =
      coefficients_are R h n t (values_at R g n s c) j
      ∙ ap (λ x. halved R n x ⊗ power R t j) (transform_same R h n _ _ (λ k m. values_at-scaled n s c k) j ∙ invert R G H I n (λ m. c m ⊗ power R s m) j b l)
      ∙ ap (λ x. x ⊗ power R t j) (halved-doubled R n _) ∙ R.mul_assoc _ _ _ ∙ ap (λ x. c j ⊗ x) (power-inverse R s t j e) ∙ R.mul_one (c j)

  -- so the values on a coset of an invertible shift determine the coefficients
  pub only_one : (n : ℕ) (s t : A) → s ⊗ t ≡ 𝟙 → (c d : ℕ → A) → n ≤ bits
      → ((k : ℕ) → k < 2 ^ n → values_at R g n s c k ≡ values_at R g n s d k) → (j : ℕ) → j < 2 ^ n → c j ≡ d j
  only_one n s t e c d b q j l =
      sym (coefficients-values_at n s t e c j b l)
      ∙ coefficients_are R h n t (values_at R g n s c) j
      ∙ ap (λ x. halved R n x ⊗ power R t j) (transform_same R h n _ _ q j)
      ∙ sym (coefficients_are R h n t (values_at R g n s d) j)
      ∙ coefficients-values_at n s t e d j b l

  -- and the values of the coefficients are the values: the roots change places in the inversion
  pub values_at-coefficients : (n : ℕ) (s t : A) → s ⊗ t ≡ 𝟙 → (y : ℕ → A) (k : ℕ) → n ≤ bits → k < 2 ^ n → values_at R g n s (coefficients R h n t y) k ≡ y k
  values_at-coefficients n s t e y k b l =
      values_at-scaled n s (coefficients R h n t y) k
      ∙ transform_same R g n _ (λ j. power R R.half n ⊗ transform R h n y j) (λ j m. each j) k
      ∙ transform_is R g n _ k ∙ poly-times R (2 ^ n) (power R R.half n) (transform R h n y) (power R (g n) k)
      ∙ ap (λ x. power R R.half n ⊗ x) (sym (transform_is R g n _ k) ∙ invert R H G (inverse_roots_sym R I) n y k b l) ∙
      sym (halved-power R n _) ∙ halved-doubled R n (y k)
    where
      each : (j : ℕ) → coefficients R h n t y j ⊗ power R s j ≡ power R R.half n ⊗ transform R h n y j
      each j =
          ap (λ x. x ⊗ power R s j) (coefficients_are R h n t y j ∙ ap (λ x. x ⊗ power R t j) (halved-power R n (transform R h n y j)))
          ∙ solve_by R (power R R.half n ∷ transform R h n y j ∷ power R t j ∷ power R s j ∷ []) (((va ⊠ vb) ⊠ vc) ⊠ vd)
          (va ⊠ vb) (va ⊠ vb) (vd ⊠ vc) oneₑ (power-inverse R s t j e) refl

module _ {A : Type 0} (R : Ring A) {g : ℕ → A} {bits : ℕ} (G : AreRoots R bits g) where
  open R use {add as ◌⊕◌, mul as ◌⊗◌, neg, zero as 𝟘, one as 𝟙}

  infixl 60 ◌⊕◌
  infixl 70 ◌⊗◌
  -- the coefficients of the values m on a coset of order 2 ^ k, t being the inverse of its shift
  unfoldable pub interpolated : (k : ℕ) (t : A) → Matrix A → Matrix A
  interpolated k t m = record { height = m.height; width = m.width; entry = λ q j. coefficients R (inverse_root R g) k t (λ i. m.entry i j) q }

  -- there are coefficients
  pub there_is_one : (m : Matrix A) (k : ℕ) (s t : A) → k ≤ bits → m.height ≡ 2 ^ k → IsInverse R s t → AreCoefficients R g m k s (interpolated k t m)
  unfolding interpolated
  there_is_one m k s t b h e = record {
    height = refl;
    width = refl;
    values = is_values R g _ k s m h refl
        (λ i j p q. sym (ap (λ n. poly R n (coefficients R (inverse_root R g) k t (λ r. m.entry r j)) (point R g k s i)) h
        ∙ sym (values_at_is R g k s _ i)
        ∙ values_at-coefficients R G (inverse_roots R G) (inverse_undoes R G) k s t e (λ r. m.entry r j) i b p));
  }

  -- there are no others
  pub there_is_no_other : (m : Matrix A) (k : ℕ) (s : A) → k ≤ bits → IsInvertible R s → (c d : Matrix A)
      → AreCoefficients R g m k s c → AreCoefficients R g m k s d → Same c d
  there_is_no_other m k s b inverse c d p q = record {
    height = p.height ∙ sym q.height;
    width = p.width ∙ sym q.width;
    alike = λ i j u v. only_one R G (inverse_roots R G) (inverse_undoes R G) k s inverse.0 inverse.1 (λ x. c.entry x j) (λ x. d.entry x j) b
        (λ y w. column_value c p y j w v ∙ sym (column_value d q y j w (omega (arith, p.width, q.width)))) i (omega (arith, p.height, p.values.height));
  }
    where
      column_value : (c : Matrix A) → AreCoefficients R g m k s c → (y j : ℕ) → y < 2 ^ k → j < c.width → values_at R g k s (λ x. c.entry x j) y ≡ m.entry y j
      column_value c p y j w v =
          values_at_is R g k s (λ x. c.entry x j) y
          ∙ ap (λ n. poly R n (λ x. c.entry x j) (point R g k s y)) (sym (p.height ∙ p.values.height))
          ∙ sym (entry-poly R g c k s m p.values y j w v)

  -- ---- inverse transforms
  -- a transform at the inverse roots gives the coefficients, doubled k times
  pub inverse_transform : (m c : Matrix A) (k : ℕ) → k ≤ bits → m.height ≡ 2 ^ k → c.height ≡ m.height → c.width ≡ m.width
      → ((i j : ℕ) → i < 2 ^ k → j < m.width
      → power R (two R) k ⊗ c.entry i j ≡ transform R (inverse_root R g) k (λ q. m.entry q j) i) → AreCoefficients
      R g m k 𝟙 c
  inverse_transform m c k b h high wide e = record {
    height = high;
    width = wide;
    values = is_values R g c k 𝟙 m h (sym wide)
        (λ i j p q. let f = λ (r : ℕ). m.entry r j in
        sym (ap (λ n. poly R n (λ r. c.entry r j) (point R g k 𝟙 i)) (high ∙ h)
        ∙ poly_same R (2 ^ k) (λ r. c.entry r j) (coefficients R (inverse_root R g) k 𝟙 f) (point R g k 𝟙 i)
        (λ r l. sym (undone f (c.entry r j) r (e r j l (omega (arith, wide)))))
        ∙ sym (values_at_is R g k 𝟙 (coefficients R (inverse_root R g) k 𝟙 f) i)
        ∙ values_at-coefficients R G (inverse_roots R G) (inverse_undoes R G) k 𝟙 𝟙 (R.mul_one 𝟙) f i b p));
  }
    where
      undone : (f : ℕ → A) (x : A) (r : ℕ) → power R (two R) k ⊗ x ≡ transform R (inverse_root R g) k f r → coefficients R (inverse_root R g) k 𝟙 f r ≡ x
      undone f x r d =
          coefficients_are R (inverse_root R g) k 𝟙 f r ∙ ap₂ (λ y z. halved R k y ⊗ z) (sym d ∙ sym (doubled-power R k x)) (power_of_one R r)
          ∙ R.mul_one (halved R k (doubled R k x)) ∙ halved-doubled R k x

  root_opposite : (n j : ℕ) → n ≤ bits → j < 2 ^ n → power R (inverse_root R g n) j ≡ power R (g n) (opposite (2 ^ n) j)
  root_opposite n zero b l = power-zero R (inverse_root R g n) ∙ sym (ap (power R (g n)) (opposite-zero (2 ^ n)) ∙ power-zero R (g n))
  root_opposite n (suc j) b l =
      inverse_power R G (inverse_undoes R G) n (suc j) (2 ^ n - suc j) b (omega arith)
      ∙ ap (power R (g n)) (sym (opposite_above_zero (2 ^ n) (suc j) (omega arith) (omega arith)))

  -- the inverse by a forward transform: the values y on the subgroup, of the values m themselves, are the coefficients of m in
  -- opposite order, doubled k times
  pub forward_inverse : (m y c : Matrix A) (k : ℕ) → k ≤ bits → m.height ≡ 2 ^ k → IsValues R g m k 𝟙 y → c.height ≡ m.height → c.width ≡ m.width
      → ((i j : ℕ) → i < 2 ^ k → j < m.width → power R (two R) k ⊗ c.entry i j ≡ y.entry (opposite (2 ^ k) i) j) → AreCoefficients R g m k 𝟙 c
  forward_inverse m y c k b h v high wide e =
      inverse_transform m c k b h high wide (λ i j p q. e i j p q ∙ entry-poly R g m k 𝟙 y v (opposite (2 ^ k) i) j (opposite-lt (2 ^ k) i (pow_pos k)) q
      ∙ ap₂ (λ n x. poly R n (λ r. m.entry r j) x) h (point_of_one R g k (opposite (2 ^ k) i) ∙ sym (root_opposite k i b p))
      ∙ sym (transform_is R (inverse_root R g) k (λ r. m.entry r j) i))

  -- the same where the height is a sum of ones
  pub forward_inverse_by_count : (m y c : Matrix A) (k : ℕ) → k ≤ bits → m.height ≡ 2 ^ k → IsValues R g m k 𝟙 y → c.height ≡ m.height → c.width ≡ m.width
      → ((i j : ℕ) → i < 2 ^ k → j < m.width → count R (2 ^ k) ⊗ c.entry i j ≡ y.entry (opposite (2 ^ k) i) j) → AreCoefficients R g m k 𝟙 c
  forward_inverse_by_count m y c k b h v high wide e =
      forward_inverse m y c k b h v high wide (λ i j p q. ap (λ x. x ⊗ c.entry i j) (sym (count-power_of_two R k)) ∙ e i j p q)

  -- coefficients on the subgroup, row i times the i-th power of the inverse of s, are coefficients on the coset of s
  pub coset_coefficients : (m c d : Matrix A) (k : ℕ) (s t : A) → IsInverse R s t → AreCoefficients R g m k 𝟙 c
      → Same d (coset_shift R t c) → AreCoefficients R g m k s d
  coset_coefficients m c d k s t inverse a e = record {
    height = e.height ∙ a.height;
    width = e.width ∙ a.width;
    values = coset_values R g d c k s m (record { height = sym e.height; width = sym e.width; alike = λ i j p q. sym (back i j p q) }) a.values;
  }
    where
      back : (i j : ℕ) → i < c.height → j < c.width → d.entry i j ⊗ power R s i ≡ c.entry i j
      back i j p q =
          ap (λ x. x ⊗ power R s i) (e.alike i j (omega (arith, e.height)) (omega (arith, e.width))) ∙ R.mul_assoc (c.entry i j) (power R t i) (power R s i)
          ∙ ap (λ x. c.entry i j ⊗ x) (R.mul_comm (power R t i) (power R s i) ∙ power-inverse R s t i inverse) ∙ R.mul_one (c.entry i j)

  -- coefficients of one matrix are those of each that is the same
  pub coefficients_of_same : (m other : Matrix A) (k : ℕ) (s : A) (c : Matrix A) → Same m other → AreCoefficients R g m k s c → AreCoefficients R g other k s c
  coefficients_of_same m other k s c e a = record { height = a.height ∙ e.height; width = a.width ∙ e.width; values = values_same R g c k s m other a.values e }

  -- and what is the same as the coefficients are the coefficients
  pub same_coefficients : (m : Matrix A) (k : ℕ) (s : A) (c d : Matrix A) → Same c d → AreCoefficients R g m k s c → AreCoefficients R g m k s d
  same_coefficients m k s c d e a = record {
    height = sym e.height ∙ a.height;
    width = sym e.width ∙ a.width;
    values = coefficients_same R g c d k s m e a.values;
  }
