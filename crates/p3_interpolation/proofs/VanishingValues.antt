-- The vanishing polynomial of a subgroup, on cosets of two-power order: its values repeat, and where they have an inverse.
use Rattle.std.proofs.Common.{◌≡◌, ℕ, ◌+◌, ◌*◌, ◌-◌, ◌≤◌, ◌^◌, sym, ap, ap₂, ◌∙◌, subst, arith, pow-add}
use Rattle.p3_field.specs.Ring.{Ring, AreRoots, IsInvertible, minus, power}
use Rattle.p3_field.proofs.Powers.{power-add, power-mul, power-zero, power_of_one, power_of_product}
use Rattle.p3_field.proofs.Roots.{root_all, root_strided}
use Rattle.p3_matrix.specs.Cosets.{point}
use Rattle.p3_matrix.proofs.Polynomials.Cosets.{point-mul}
use Rattle.p3_interpolation.specs.Interpolations.{IsOffCoset}
use Rattle.p3_interpolation.proofs.BarycentricFormula.{geometric, geometric-times}

module _ {A : Type 0} (R : Ring A) {g : ℕ → A} {bits : ℕ} (G : AreRoots R bits g) where
  open R use {add as ◌⊕◌, mul as ◌⊗◌, neg, zero as 𝟘, one as 𝟙}

  infixl 60 ◌⊕◌
  infixl 70 ◌⊗◌
  -- a power of a point is that of the shift times that of the root
  point_power : (m n : ℕ) (s : A) (i : ℕ) → power R (point R g m s i) n ≡ power R s n ⊗ power R (g m) (i * n)
  point_power m n s i =
      ap (λ x. power R x n) (point-mul R g m s i) ∙ power_of_product R s (power R (g m) i) n ∙ ap (λ x. power R s n ⊗ x) (sym (power-mul R (g m) i n))

  -- on a coset of 2 ^ a times as many points, x ^ (2 ^ k) takes 2 ^ a values, in turn
  pub values_repeat : (k a : ℕ) (s : A) (i j : ℕ) → k + a ≤ bits → power R s (2 ^ k) ⊗ power R (g a) i ≡ power R (point R g (k + a) s (i + 2 ^ a * j)) (2 ^ k)
  values_repeat k a s i j within =
      let root = g (k + a) in
      let turned : a + k ≡ k + a = omega arith in
      let split : (i + 2 ^ a * j) * 2 ^ k ≡ i * 2 ^ k + j * (2 ^ k * 2 ^ a) = omega arith in
      let whole : j * (2 ^ k * 2 ^ a) ≡ j * 2 ^ (k + a) = ap (λ n. j * n) (sym (pow-add 2 k a)) in
      sym (point_power (k + a) (2 ^ k) s (i + 2 ^ a * j)
      ∙ ap (λ x. power R s (2 ^ k) ⊗ x)
      (ap (power R root) (split ∙ ap (λ n. i * 2 ^ k + n) whole) ∙ power-add R root (i * 2 ^ k) (j * 2 ^ (k + a))
      ∙ ap₂ ◌⊗◌ (ap (λ n. power R (g n) (i * 2 ^ k)) (sym turned) ∙ root_strided R G a k i (omega (arith, within))) (root_all R G (k + a) j within)
      ∙ R.mul_one (power R (g a) i)))

  -- where s ^ (2 ^ l) - 1 has an inverse, so has x ^ (2 ^ n) - 1 at each point x of a coset of s of order 2 ^ m, for m and n up to l
  pub off_subgroups : (l m n : ℕ) (s : A) (i : ℕ) → m ≤ bits → m ≤ l → n ≤ l → IsOffCoset R (2 ^ l) 𝟙 s → IsOffCoset R (2 ^ n) 𝟙 (point R g m s i)
  off_subgroups l m n s i within small fewer off =
      let x = point R g m s i in
      let u = power R x (2 ^ n) in
      let p = geometric R (2 ^ (l - n)) u in
      let parts : 2 ^ n * 2 ^ (l - n) ≡ 2 ^ l = sym (pow-add 2 n (l - n)) ∙ ap (λ k. 2 ^ k) (omega (arith, fewer)) in
      let turns : i * 2 ^ l ≡ i * 2 ^ (l - m) * 2 ^ m =
      ap (λ k. i * k) (ap (λ k. 2 ^ k) (omega (arith, small)) ∙ pow-add 2 (l - m) m) ∙ omega arith in
      let all : power R u (2 ^ (l - n)) ≡ power R s (2 ^ l) =
      sym (power-mul R x (2 ^ n) (2 ^ (l - n))) ∙ ap (power R x) parts ∙ point_power m (2 ^ l) s i
      ∙ ap (λ y. power R s (2 ^ l) ⊗ y) (ap (power R (g m)) turns ∙ root_all R G m (i * 2 ^ (l - m)) within) ∙ R.mul_one (power R s (2 ^ l)) in (
        p ⊗ off.0,
        ap (λ y. minus R u y ⊗ (p ⊗ off.0)) (power_of_one R (2 ^ n))
            ∙ sym (R.mul_assoc (minus R u 𝟙) p off.0) ∙ ap (λ y. y ⊗ off.0) (geometric-times R (2 ^ (l - n)) u)
            ∙ ap₂ (λ y z. minus R y z ⊗ off.0) all (sym (power_of_one R (2 ^ l))) ∙ off.1,
      )

  -- so has s ^ (2 ^ n) - 1 itself
  pub off_smaller : (l n : ℕ) (s : A) → n ≤ l → IsOffCoset R (2 ^ l) 𝟙 s → IsOffCoset R (2 ^ n) 𝟙 s
  off_smaller l n s fewer off =
      let same : point R g 0 s 0 ≡ s = point-mul R g 0 s 0 ∙ ap (λ x. s ⊗ x) (power-zero R (g 0)) ∙ R.mul_one s in
      subst (λ (x : A). IsOffCoset R (2 ^ n) 𝟙 x) same (off_subgroups l 0 n s 0 (omega arith) (omega arith) fewer off)

  -- the same as the value of the vanishing polynomial
  pub vanishing_invertible : (n : ℕ) (x : A) → IsOffCoset R n 𝟙 x → IsInvertible R (minus R (power R x n) 𝟙)
  vanishing_invertible n x off = (off.0, ap (λ y. minus R (power R x n) y ⊗ off.0) (sym (power_of_one R n)) ∙ off.1)
