-- The barycentric formula on a coset of a subgroup of two-power order.
use Rattle.std.proofs.Common.{◌≡◌, ℕ, zero, suc, ◌+◌, ◌*◌, ◌<◌, ◌≤◌, ◌^◌, List, [], ◌∷◌, length, get_or, map, refl, sym, ap, ap₂, ◌∙◌, arith}
use Rattle.p3_field.specs.Ring.{Ring, AreRoots, IsInverse, IsInvertible, minus, power, two}
use Rattle.p3_field.proofs.Rings
use Rattle.p3_field.proofs.RingSolver.{solve, va, vb, vc, vd, oneₑ, zeroₑ, ◌⊞◌, ◌⊠◌, ◌⊟◌}
use Rattle.p3_field.proofs.Powers.{power-zero, power-suc, power-mul, power_of_product, power-inverse}
use Rattle.p3_field.proofs.Roots.{inverse_root, inverse_roots, inverse_undoes, root_all}
use Rattle.p3_field.proofs.Roots.{halved-power}
use Rattle.p3_matrix.specs.Cosets.{point}
use Rattle.p3_matrix.specs.Polynomials.{poly, sum}
use Rattle.p3_matrix.proofs.Polynomials.ByIndex.{poly_same, poly-add, poly-times, poly-scaled, sum_same}
use Rattle.p3_matrix.proofs.Rows.Overwritten.{value_at}
use Rattle.p3_matrix.proofs.Polynomials.Interpolation.{coefficients, coefficients_are, coefficients-values_at, values_at, values_at_is, transform, transform_is}
use Rattle.p3_interpolation.specs.Interpolations.{AreWeights, IsOffCoset}

module _ {A : Type 0} (R : Ring A) where
  open R use {add as ◌⊕◌, mul as ◌⊗◌, neg, zero as 𝟘, one as 𝟙}

  infixl 60 ◌⊕◌
  infixl 70 ◌⊗◌
  pub sum-times : (n : ℕ) (a : A) (t : ℕ → A) → sum R n (λ i. a ⊗ t i) ≡ a ⊗ sum R n t
  unfolding sum
  sum-times zero a t = sym (Rings.mul-zero R a)
  sum-times (suc n) a t = ap (λ y. a ⊗ t 0 ⊕ y) (sum-times n a (λ i. t (suc i))) ∙ sym (R.mul_add a (t 0) (sum R n (λ i. t (suc i))))

  pub sum-none : (t : ℕ → A) → sum R 0 t ≡ 𝟘
  unfolding sum
  sum-none t = refl

  -- one more term
  pub sum-more : (n : ℕ) (t : ℕ → A) → sum R (n + 1) t ≡ sum R n t ⊕ t n
  unfolding sum
  sum-more zero t = R.add_comm (t 0) 𝟘
  sum-more (suc n) t =
      let e : suc n + 1 ≡ suc (n + 1) = omega arith in
      ap (λ k. sum R k t) e ∙ ap (λ y. t 0 ⊕ y) (sum-more n (λ i. t (suc i))) ∙ sym (R.add_assoc (t 0) (sum R n (λ i. t (suc i))) (t (suc n)))

  -- 1 + x + .. + x^(n - 1)
  abbrev pub geometric : ℕ → A → A
  geometric n x = poly R n (λ _. 𝟙) x

  pub geometric-times : (n : ℕ) (x : A) → minus R x 𝟙 ⊗ geometric n x ≡ minus R (power R x n) 𝟙
  unfolding poly power
  geometric-times zero x = solve R (x ∷ []) ((va ⊟ oneₑ) ⊠ zeroₑ) (oneₑ ⊟ oneₑ) refl
  geometric-times (suc n) x =
      let p = geometric n x in
      solve R (x ∷ p ∷ []) ((va ⊟ oneₑ) ⊠ (oneₑ ⊞ va ⊠ vb)) ((va ⊟ oneₑ) ⊞ va ⊠ ((va ⊟ oneₑ) ⊠ vb)) refl
      ∙ ap (λ y. minus R x 𝟙 ⊕ x ⊗ y) (geometric-times n x)
      ∙ solve R (x ∷ power R x n ∷ []) ((va ⊟ oneₑ) ⊞ va ⊠ (vb ⊟ oneₑ)) (va ⊠ vb ⊟ oneₑ) refl

  -- the order of two sums exchanged
  pub exchanged : (m n : ℕ) (y : ℕ → A) (h v : A) → poly R n (λ j. poly R m y (power R h j)) v ≡ sum R m (λ i. y i ⊗ geometric n (v ⊗ power R h i))
  unfolding poly sum
  exchanged zero n y h v = poly_same R n _ (λ j. 𝟘 ⊗ 𝟙) v (λ j l. sym (R.mul_one 𝟘)) ∙ poly-times R n 𝟘 (λ j. 𝟙) v ∙ Rings.zero-mul R (geometric n v)
  exchanged (suc m) n y h v =
      let rest = λ (j : ℕ). poly R m (λ i. y (suc i)) (power R h j) in
      poly_same R n _ (λ j. y 0 ⊗ 𝟙 ⊕ rest j ⊗ power R h j) v (λ j l. ap₂ ◌⊕◌ (sym (R.mul_one (y 0))) (R.mul_comm (power R h j) (rest j)))
      ∙ poly-add R n (λ j. y 0 ⊗ 𝟙) (λ j. rest j ⊗ power R h j) v
      ∙ ap₂ ◌⊕◌
      (poly-times R n (y 0) (λ j. 𝟙) v ∙ ap (λ z. y 0 ⊗ geometric n z) (sym (ap (λ z. v ⊗ z) (power-zero R h) ∙ R.mul_one v)))
      (poly-scaled R n rest h v ∙ exchanged m n (λ i. y (suc i)) h (h ⊗ v)
      ∙ sum_same R m _ _ (λ i l. ap (λ z. y (suc i) ⊗ geometric n z) (moved i)))
    where
      moved : (i : ℕ) → (h ⊗ v) ⊗ power R h i ≡ v ⊗ power R h (suc i)
      moved i = solve R (h ∷ v ∷ power R h i ∷ []) ((va ⊠ vb) ⊠ vc) (vb ⊠ (va ⊠ vc)) refl ∙ ap (λ z. v ⊗ z) (sym (power-suc R h i))

  -- x over s, times the i-th power of h, where t is the inverse of s
  abbrev pub ratio : A → A → A → ℕ → A
  ratio t x h i = (x ⊗ t) ⊗ power R h i

module _ {A : Type 0} (R : Ring A) {g : ℕ → A} {bits : ℕ} (G : AreRoots R bits g) where
  open R use {add as ◌⊕◌, mul as ◌⊗◌, neg, zero as 𝟘, one as 𝟙}

  infixl 60 ◌⊕◌
  infixl 70 ◌⊗◌
  -- where h is the inverse of a root, the power of its order is that of x over s
  ratio_whole : (n : ℕ) (t x h : A) (i : ℕ) → n ≤ bits → IsInverse R (g n) h → power R (ratio R t x h i) (2 ^ n) ≡ power R (x ⊗ t) (2 ^ n)
  ratio_whole n t x h i within undo =
      power_of_product R (x ⊗ t) (power R h i) (2 ^ n) ∙ ap (λ z. power R (x ⊗ t) (2 ^ n) ⊗ z) one ∙ R.mul_one (power R (x ⊗ t) (2 ^ n))
    where
      one : power R (power R h i) (2 ^ n) ≡ 𝟙
      one =
          sym (power-mul R h i (2 ^ n)) ∙ sym (Rings.one-mul R (power R h (i * 2 ^ n))) ∙ ap (λ z. z ⊗ power R h (i * 2 ^ n)) (sym (root_all R G n i within))
          ∙ power-inverse R (g n) h (i * 2 ^ n) undo

  -- the sum of the values of so many powers, by the inverse of the ratio less one
  quotient : (n : ℕ) (t x h y : A) (i : ℕ) → n ≤ bits → IsInverse R (g n) h → IsInverse R (minus R (ratio R t x h i) 𝟙) y
      → geometric R (2 ^ n) (ratio R t x h i) ≡ y ⊗ minus R (power R (x ⊗ t) (2 ^ n)) 𝟙
  quotient n t x h y i within undo inverse =
      let u = ratio R t x h i in
      let p = geometric R (2 ^ n) u in
      sym (Rings.one-mul R p) ∙ ap (λ z. z ⊗ p) (sym inverse ∙ R.mul_comm (minus R u 𝟙) y) ∙ R.mul_assoc y (minus R u 𝟙) p
      ∙ ap (λ z. y ⊗ z) (geometric-times R (2 ^ n) u ∙ ap (λ z. minus R z 𝟙) (ratio_whole n t x h i within undo))

  -- weights are such inverses, times the power of x over s less one, divided by the order
  pub weights : (n : ℕ) (s t x h scale : A) (w : ℕ → A) → n ≤ bits → IsInverse R s t → IsInverse R (g n) h
      → power R (two R) n ⊗ scale ≡ minus R (power R (x ⊗ t) (2 ^ n)) 𝟙
      → ((i : ℕ) → i < 2 ^ n → (y : A) × (IsInverse R (minus R (ratio R t x h i) 𝟙) y × (w i ≡ y ⊗ scale)))
      → AreWeights R g n s x w
  weights n s t x h scale w within undo root scaled each c =
      poly_same R N c (λ j. half ⊗ (T j ⊗ power R t j)) x
      (λ j l.
      sym (coefficients-values_at R G (inverse_roots R G) (inverse_undoes R G) n s t undo c j within l)
      ∙ coefficient j)
      ∙ poly-times R N half (λ j. T j ⊗ power R t j) x
      ∙ ap (λ z. half ⊗ z) (poly-scaled R N T t x ∙ ap (poly R N T) (R.mul_comm t x) ∙ exchanged R N N y h (x ⊗ t))
      ∙ sym (sum-times R N half (λ i. y i ⊗ geometric R N (ratio R t x h i)))
      ∙ sum_same R N (λ i. half ⊗ (y i ⊗ geometric R N (ratio R t x h i))) (λ i. poly R N c (point R g n s i) ⊗ w i) term
    where
      N : ℕ
      N = 2 ^ n

      half : A
      half = power R R.half n

      y : ℕ → A
      y = values_at R g n s c

      T : ℕ → A
      T j = poly R N y (power R h j)

      is : inverse_root R g n ≡ h
      is = Rings.inverse_unique R (g n) (inverse_root R g n) h ((inverse_undoes R G).undo n within) root

      coefficient : (j : ℕ) → coefficients R (inverse_root R g) n t y j ≡ half ⊗ (T j ⊗ power R t j)
      coefficient j =
          coefficients_are R (inverse_root R g) n t y j
          ∙ ap (λ z. z ⊗ power R t j) (halved-power R n (transform R (inverse_root R g) n y j)
          ∙ ap (λ z. half ⊗ z) (transform_is R (inverse_root R g) n y j ∙ ap (λ z. poly R N y (power R z j)) is))
          ∙ R.mul_assoc half (T j) (power R t j)

      halves : half ⊗ minus R (power R (x ⊗ t) N) 𝟙 ≡ scale
      halves =
          ap (λ z. half ⊗ z) (sym scaled) ∙ sym (R.mul_assoc half (power R (two R) n) scale)
          ∙ ap (λ z. z ⊗ scale) (R.mul_comm half (power R (two R) n)
          ∙ power-inverse R (two R) R.half n (Rings.two-mul R R.half ∙ R.half_twice)) ∙ Rings.one-mul R scale

      term : (i : ℕ) → i < N → half ⊗ (y i ⊗ geometric R N (ratio R t x h i)) ≡ poly R N c (point R g n s i) ⊗ w i
      term i below =
          let inverse = each i below in
          let e = inverse.0 in
          let Z = minus R (power R (x ⊗ t) N) 𝟙 in
          let p = poly R N c (point R g n s i) in
          ap₂ (λ a b. half ⊗ (a ⊗ b)) (values_at_is R g n s c i) (quotient n t x h e i within root inverse.1.0)
          ∙ solve R (half ∷ p ∷ e ∷ Z ∷ []) (va ⊠ (vb ⊠ (vc ⊠ vd))) (vb ⊠ (vc ⊠ (va ⊠ vd))) refl
          ∙ ap (λ z. p ⊗ z) (ap (λ z. e ⊗ z) halves ∙ sym inverse.1.1)

  -- the same of lists: of the ratios less one, of their inverses, and of the weights
  pub listed_weights : {S : Type 0} (value : S → A) (z : S) (divisors inverses ws : List S) (n : ℕ) (s t x h scale : A)
      → n ≤ bits → IsInverse R s t → IsInverse R (g n) h
      → power R (two R) n ⊗ scale ≡ minus R (power R (x ⊗ t) (2 ^ n)) 𝟙
      → ((i : ℕ) → i < 2 ^ n → value (get_or divisors i z) ≡ minus R (ratio R t x h i) 𝟙)
      → ((i : ℕ) → i < 2 ^ n → IsInverse R (value (get_or divisors i z)) (value (get_or inverses i z)))
      → length inverses ≡ 2 ^ n → length ws ≡ length inverses → map value ws ≡ map (λ y. y ⊗ scale) (map value inverses)
      → AreWeights R g n s x (λ i. value (get_or ws i z))
  listed_weights value z divisors inverses ws n s t x h scale within undo root scaled are invert many same made =
      weights n s t x h scale (λ i. value (get_or ws i z)) within undo root scaled
      (λ i below.
      let y = value (get_or inverses i z) in
      (y, (ap (λ u. u ⊗ y) (sym (are i below)) ∙ invert i below, value_at value (λ u. u ⊗ scale) inverses ws i z made same (omega (arith, below, many)))))

  -- off the coset each ratio less one has an inverse
  pub ratio_apart : (n : ℕ) (s t x h : A) (i : ℕ) → n ≤ bits → IsInverse R s t → IsInverse R (g n) h
      → IsOffCoset R (2 ^ n) s x → IsInvertible R (minus R (ratio R t x h i) 𝟙)
  ratio_apart n s t x h i within undo root off =
      let N = 2 ^ n in
      let u = ratio R t x h i in
      let p = geometric R N u in
      let a = power R x N in
      let b = power R s N in
      let d = power R t N in (
        p ⊗ (b ⊗ off.0),
        sym (R.mul_assoc (minus R u 𝟙) p (b ⊗ off.0))
            ∙ ap (λ z. z ⊗ (b ⊗ off.0)) (geometric-times R N u ∙ ap (λ z. minus R z 𝟙) (ratio_whole n t x h i within root ∙ power_of_product R x t N))
            ∙ solve R (a ∷ b ∷ d ∷ off.0 ∷ []) ((va ⊠ vc ⊟ oneₑ) ⊠ (vb ⊠ vd)) ((va ⊠ (vb ⊠ vc) ⊟ vb) ⊠ vd) refl
            ∙ ap (λ z. minus R (a ⊗ z) b ⊗ off.0) (power-inverse R s t N undo) ∙ ap (λ z. minus R z b ⊗ off.0) (R.mul_one a) ∙ off.1,
      )
