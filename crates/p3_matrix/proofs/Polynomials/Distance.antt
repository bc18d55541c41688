-- How far apart two polynomials lie: two lists of n coefficients whose polynomials agree at n points are one, where the
-- differences of the points have inverses; and the points of a coset of an invertible shift are such points.
use Rattle.p3_matrix.proofs.Names.{◌≡◌, ◌≢◌, ℕ, zero, suc, ◌+◌, ◌-◌, ◌<◌, ◌≤◌, ◌^◌, refl, sym, ap, ap₂, ◌∙◌, subst, [], ◌∷◌, arith, ◌⊎◌, inl, inr, get_or}
use Rattle.p3_matrix.proofs.Names.{cases_order, Ring, power, two, AreRoots, IsInvertible, solve, va, vb, vc, vd, ve, zeroₑ, oneₑ, ◌⊞◌, ◌⊠◌, ◌⊟◌, ⊝, power-add}
use Rattle.p3_matrix.proofs.Names.{power-inverse, root_squared, root_half, root_round, inverse_root, inverse_undoes, poly, Matrix, Same, point, IsValues}
use Rattle.p3_matrix.proofs.Names.{AgreeInRows}
use Rattle.p3_matrix.proofs.Polynomials.ByIndex.{poly_zeros, poly-add, poly-neg}
use Rattle.p3_matrix.proofs.Polynomials.Cosets.{point-mul, entry-poly, coefficients_same, values_unique}
use Rattle.p3_field.proofs.Rings

module _ {A : Type 0} (R : Ring A) where
  open R use {add as ◌⊕◌, mul as ◌⊗◌, neg, zero as 𝟘, one as 𝟙}

  infixl 60 ◌⊕◌
  infixl 70 ◌⊗◌
  -- the differences of the first n points have inverses
  pub record AreApart (n : ℕ) (x : ℕ → A) : Type 0 where
    pub apart : (i j : ℕ) → i < j → j < n → IsInvertible R (x j ⊕ neg (x i))

  -- ---- what has an inverse
  cancel_invertible : (u y : A) → IsInvertible R u → u ⊗ y ≡ 𝟘 → y ≡ 𝟘
  cancel_invertible u y (v, undo) e =
      sym (Rings.one-mul R y) ∙ ap (λ x. x ⊗ y) (sym undo ∙ R.mul_comm u v) ∙ R.mul_assoc v u y ∙ ap (λ x. v ⊗ x) e ∙ Rings.mul-zero R v

  invertible_product : (u v : A) → IsInvertible R u → IsInvertible R v → IsInvertible R (u ⊗ v)
  invertible_product u v (x, e) (y, d) =
      (x ⊗ y, solve R (u ∷ v ∷ x ∷ y ∷ []) ((va ⊠ vb) ⊠ (vc ⊠ vd)) ((va ⊠ vc) ⊠ (vb ⊠ vd)) refl ∙ ap₂ ◌⊗◌ e d ∙ R.mul_one 𝟙)

  invertible_negative : (u : A) → IsInvertible R u → IsInvertible R (neg u)
  invertible_negative u (x, e) = (neg x, solve R (u ∷ x ∷ []) (⊝ va ⊠ ⊝ vb) (va ⊠ vb) refl ∙ e)

  -- what divides two has an inverse
  invertible_divisor : (u y : A) → u ⊗ y ≡ two R → IsInvertible R u
  invertible_divisor u y e =
      (y ⊗ R.half, sym (R.mul_assoc u y R.half) ∙ ap (λ x. x ⊗ R.half) e ∙ Rings.two-mul R R.half ∙ R.half_twice)

  -- ---- a polynomial without one of its points
  -- the n coefficients of (c x - c a) / (x - a), where c has one more
  unfoldable quotient : ℕ → (ℕ → A) → A → ℕ → A
  quotient zero c a j = 𝟘
  quotient (suc n) c a zero = poly R (suc n) (λ j. c (suc j)) a
  quotient (suc n) c a (suc j) = quotient n (λ i. c (suc i)) a j

  quotient-poly : (n : ℕ) (c : ℕ → A) (a x : A) → poly R (suc n) c x ≡ poly R (suc n) c a ⊕ (x ⊕ neg a) ⊗ poly R n (quotient n c a) x
  unfolding poly quotient
  quotient-poly zero c a x = solve R (c 0 ∷ x ∷ a ∷ []) (va ⊞ vb ⊠ zeroₑ) ((va ⊞ vc ⊠ zeroₑ) ⊞ (vb ⊟ vc) ⊠ zeroₑ) refl
  quotient-poly (suc n) c a x =
      ap (λ y. c 0 ⊕ x ⊗ y) (quotient-poly n (λ j. c (suc j)) a x)
      ∙ solve R (c 0 ∷ x ∷ a ∷ poly R (suc n) (λ j. c (suc j)) a ∷ poly R n (quotient n (λ j. c (suc j)) a) x ∷ [])
      (va ⊞ vb ⊠ (vd ⊞ (vb ⊟ vc) ⊠ ve)) ((va ⊞ vc ⊠ vd) ⊞ (vb ⊟ vc) ⊠ (vd ⊞ vb ⊠ ve)) refl

  constant_alone : (n : ℕ) (c : ℕ → A) (a : A) → ((j : ℕ) → j < n → c (suc j) ≡ 𝟘) → poly R (suc n) c a ≡ c 0
  unfolding poly
  constant_alone n c a zeros = ap (λ y. c 0 ⊕ a ⊗ y) (poly_zeros R n (λ j. c (suc j)) a zeros) ∙ ap (λ y. c 0 ⊕ y) (Rings.mul-zero R a) ∙ R.add_zero (c 0)

  -- where it is zero, so are the coefficients but the constant one
  quotient-zero : (n : ℕ) (c : ℕ → A) (a : A) → ((j : ℕ) → j < n → quotient n c a j ≡ 𝟘) → (j : ℕ) → j < n → c (suc j) ≡ 𝟘
  unfolding quotient
  quotient-zero zero c a zeros j below = absurd (omega arith)
  quotient-zero (suc n) c a zeros zero below =
      sym (constant_alone n (λ j. c (suc j)) a (quotient-zero n (λ j. c (suc j)) a (λ j inside. zeros (suc j) (omega arith)))) ∙ zeros 0 (omega arith)
  quotient-zero (suc n) c a zeros (suc j) below = quotient-zero n (λ i. c (suc i)) a (λ i inside. zeros (suc i) (omega arith)) j (omega arith)

  -- ---- agreement
  -- n coefficients whose polynomial is zero at n points are zero
  pub zero_coefficients : (n : ℕ) (c x : ℕ → A) → AreApart n x → ((i : ℕ) → i < n → poly R n c (x i) ≡ 𝟘) → (j : ℕ) → j < n → c j ≡ 𝟘
  zero_coefficients zero c x distinct zeros j below = absurd (omega arith)
  zero_coefficients (suc n) c x distinct zeros j below =
      all (zero_coefficients n (quotient n c (x 0)) (λ i. x (suc i))
      (record { apart = λ p q before inside. distinct.apart (suc p) (suc q) (omega arith) (omega arith) }) others)
      j below
    where
      others : (i : ℕ) → i < n → poly R n (quotient n c (x 0)) (x (suc i)) ≡ 𝟘
      others i inside =
          cancel_invertible (x (suc i) ⊕ neg (x 0)) (poly R n (quotient n c (x 0)) (x (suc i))) (distinct.apart 0 (suc i) (omega arith) (omega arith))
          (sym (Rings.zero-add R _) ∙ ap (λ y. y ⊕ (x (suc i) ⊕ neg (x 0)) ⊗ poly R n (quotient n c (x 0)) (x (suc i))) (sym (zeros 0 (omega arith)))
          ∙ sym (quotient-poly n c (x 0) (x (suc i))) ∙ zeros (suc i) (omega arith))

      all : ((k : ℕ) → k < n → quotient n c (x 0) k ≡ 𝟘) → (k : ℕ) → k < suc n → c k ≡ 𝟘
      all rest zero inside = sym (constant_alone n c (x 0) (quotient-zero n c (x 0) rest)) ∙ zeros 0 (omega arith)
      all rest (suc k) inside = quotient-zero n c (x 0) rest k (omega arith)

  -- two polynomials of n coefficients that agree at n points are one
  pub one_polynomial : (n : ℕ) (c d x : ℕ → A) → AreApart n x → ((i : ℕ) → i < n → poly R n c (x i) ≡ poly R n d (x i)) → (j : ℕ) → j < n → c j ≡ d j
  one_polynomial n c d x distinct agree j below =
      difference (c j) (d j) (zero_coefficients n (λ i. c i ⊕ neg (d i)) x distinct each j below)
    where
      difference : (a b : A) → a ⊕ neg b ≡ 𝟘 → a ≡ b
      difference a b e = sym (Rings.neg-neg R a) ∙ ap neg (sym (Rings.neg_unique R a (neg b) e)) ∙ Rings.neg-neg R b

      each : (i : ℕ) → i < n → poly R n (λ k. c k ⊕ neg (d k)) (x i) ≡ 𝟘
      each i inside =
          poly-add R n c (λ k. neg (d k)) (x i) ∙ ap₂ ◌⊕◌ (agree i inside) (poly-neg R n d (x i)) ∙ R.add_neg (poly R n d (x i))

module _ {A : Type 0} (R : Ring A) {g : ℕ → A} {bits : ℕ} (G : AreRoots R bits g) where
  open R use {add as ◌⊕◌, mul as ◌⊗◌, neg, zero as 𝟘, one as 𝟙}

  infixl 60 ◌⊕◌
  infixl 70 ◌⊗◌
  -- ---- points of a coset
  -- one minus a power of a root, other than one, divides two
  pub one_minus_root_divides : (n m : ℕ) → n ≤ bits → 0 < m → m < 2 ^ n → (y : A) × ((𝟙 ⊕ neg (power R (g n) m)) ⊗ y ≡ two R)
  one_minus_root_divides zero m b some below = absurd (omega arith)
  one_minus_root_divides (suc n) m b some below = cases (λ t more less. one_minus_root_divides n t (omega arith) more less) (cases_order m (2 ^ n))
    where
      x : A
      x = power R (g (suc n)) m

      -- 1 - x divides 1 - x^2
      of_square : (t : ℕ) → power R (g n) t ≡ x ⊗ x → (y : A) × ((𝟙 ⊕ neg (power R (g n) t)) ⊗ y ≡ two R) → (y : A) × ((𝟙 ⊕ neg x) ⊗ y ≡ two R)
      of_square t square (y, e) = (
        (𝟙 ⊕ x) ⊗ y,
        solve R (x ∷ y ∷ []) ((oneₑ ⊟ va) ⊠ ((oneₑ ⊞ va) ⊠ vb)) ((oneₑ ⊟ va ⊠ va) ⊠ vb) refl ∙ ap (λ z. (𝟙 ⊕ neg z) ⊗ y) (sym square) ∙ e,
      )

      cases : ((t : ℕ) → 0 < t → t < 2 ^ n → (y : A) × ((𝟙 ⊕ neg (power R (g n) t)) ⊗ y ≡ two R)) → (m ≡ 2 ^ n) ⊎ ((m < 2 ^ n) ⊎ (2 ^ n < m))
          → (y : A) × ((𝟙 ⊕ neg x) ⊗ y ≡ two R)
      cases smaller (inl e) =
          (𝟙, R.mul_one (𝟙 ⊕ neg x) ∙ ap (λ z. 𝟙 ⊕ neg z) (ap (power R (g (suc n))) e ∙ root_half R G n b) ∙ ap (λ z. 𝟙 ⊕ z) (Rings.neg-neg R 𝟙))
      cases smaller (inr (inl less)) = of_square m (sym (root_squared R G n m b)) (smaller m some less)
      cases smaller (inr (inr more)) =
          let t = m - 2 ^ n in
          let e : 2 ^ n + t ≡ m = omega (arith, more) in
          of_square t (sym (root_round R G n t (omega arith)) ∙ ap (power R (g n)) e ∙ sym (root_squared R G n m b)) (smaller t (omega arith) (omega arith))

  -- so it has an inverse
  pub one_minus_root : (n m : ℕ) → n ≤ bits → 0 < m → m < 2 ^ n → IsInvertible R (𝟙 ⊕ neg (power R (g n) m))
  one_minus_root n m b some below =
      let divides = one_minus_root_divides n m b some below in
      invertible_divisor R (𝟙 ⊕ neg (power R (g n) m)) divides.0 divides.1

  -- the difference of a point and a later one
  later_point : (n : ℕ) (s : A) (i j : ℕ) → n ≤ bits → IsInvertible R s → i < j → j < 2 ^ n → IsInvertible R (point R g n s i ⊕ neg (point R g n s j))
  later_point n s i j b inverse before below =
      subst (IsInvertible R) (sym difference)
      (invertible_product R (s ⊗ power R (g n) i) (𝟙 ⊕ neg (power R (g n) (j - i))) (invertible_product R s (power R (g n) i) inverse power_inverse)
      (one_minus_root n (j - i) b (omega arith) (omega arith)))
    where
      power_inverse : IsInvertible R (power R (g n) i)
      power_inverse = (power R (inverse_root R g n) i, power-inverse R (g n) (inverse_root R g n) i ((inverse_undoes R G).undo n b))

      difference : point R g n s i ⊕ neg (point R g n s j) ≡ (s ⊗ power R (g n) i) ⊗ (𝟙 ⊕ neg (power R (g n) (j - i)))
      difference =
          let e : j ≡ i + (j - i) = omega arith in
          ap₂ (λ y z. y ⊕ neg z) (point-mul R g n s i) (point-mul R g n s j ∙ ap (λ y. s ⊗ y) (ap (power R (g n)) e ∙ power-add R (g n) i (j - i)))
          ∙ solve R (s ∷ power R (g n) i ∷ power R (g n) (j - i) ∷ []) (va ⊠ vb ⊟ va ⊠ (vb ⊠ vc)) ((va ⊠ vb) ⊠ (oneₑ ⊟ vc)) refl

  -- the difference of two points has an inverse
  pub points_apart : (n : ℕ) (s : A) (i j : ℕ) → n ≤ bits → IsInvertible R s → i < 2 ^ n → j < 2 ^ n → i ≢ j
      → IsInvertible R (point R g n s j ⊕ neg (point R g n s i))
  points_apart n s i j b inverse first second different = cases (cases_order i j)
    where
      turned : (x y : A) → IsInvertible R (x ⊕ neg y) → IsInvertible R (y ⊕ neg x)
      turned x y given = subst (IsInvertible R) (solve R (x ∷ y ∷ []) (⊝ (va ⊟ vb)) (vb ⊟ va) refl) (invertible_negative R (x ⊕ neg y) given)

      cases : (i ≡ j) ⊎ ((i < j) ⊎ (j < i)) → IsInvertible R (point R g n s j ⊕ neg (point R g n s i))
      cases (inl same) = absurd (different same)
      cases (inr (inl before)) = turned (point R g n s i) (point R g n s j) (later_point n s i j b inverse before second)
      cases (inr (inr after)) = later_point n s j i b inverse after first

  -- ---- words
  -- words of one width that agree in as many rows as their polynomials have coefficients are one
  pub one_word : (c d : Matrix A) (n : ℕ) (s : A) (v w : Matrix A) → n ≤ bits → IsInvertible R s → c.height ≡ d.height
      → IsValues R g c n s v → IsValues R g d n s w → v.width ≡ w.width
      → AgreeInRows c.height v w → Same v w
  one_word c d n s v w b inverse tall of_c of_d wide agree =
      values_unique R g d n s v w (coefficients_same R g c d n s v same of_c) of_d
    where
      inside : (i : ℕ) → i < c.height → get_or agree.rows i 0 < 2 ^ n
      inside i below = omega (arith, agree.within i 0 (omega (arith, agree.enough)), of_c.height)

      distinct : AreApart R c.height (λ i. point R g n s (get_or agree.rows i 0))
      distinct = record {
        apart = λ i j before below. points_apart n s (get_or agree.rows i 0) (get_or agree.rows j 0) b inverse (inside i (omega arith)) (inside j below)
            (agree.distinct i j 0 before (omega (arith, agree.enough)));
      }

      here : (j : ℕ) → j < c.width → (i : ℕ) → i < c.height
          → poly R c.height (λ q. c.entry q j) (point R g n s (get_or agree.rows i 0))
          ≡ poly R c.height (λ q. d.entry q j) (point R g n s (get_or agree.rows i 0))
      here j column i below =
          sym (entry-poly R g c n s v of_c (get_or agree.rows i 0) j (inside i below) column)
          ∙ agree.holds i 0 (omega (arith, agree.enough)) j (omega (arith, of_c.width))
          ∙ entry-poly R g d n s w of_d (get_or agree.rows i 0) j (inside i below) (omega (arith, of_c.width, of_d.width, wide))
          ∙ ap (λ h. poly R h (λ q. d.entry q j) (point R g n s (get_or agree.rows i 0))) (sym tall)

      same : Same c d
      same = record {
        height = tall;
        width = sym of_c.width ∙ wide ∙ of_d.width;
        alike =
            λ i j below column. one_polynomial R c.height (λ q. c.entry q j) (λ q. d.entry q j)
            (λ q. point R g n s (get_or agree.rows q 0)) distinct (here j column) i below;
      }
