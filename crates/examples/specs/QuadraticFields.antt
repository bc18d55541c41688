-- Proofs, and no definitions but a pairing: what the pairs of a quadratic step owe as a field.
use Rattle.std.proofs.Common.{◌≡◌, ◌↔◌, ◌&&◌, ℕ, suc, ◌+◌, ◌*◌, ◌<◌, ◌≤◌, IsTrue, Bool, refl, subst, sym, ap, ap₂, ◌∙◌, [], ◌∷◌, inl, inr, arith}
use Rattle.std.proofs.Math.Nat.{mul-le-mul}
use Rattle.std.proofs.lemmas.Bool.{and_from, and_parts, cases_order}
use Rattle.p3_field.specs.Ring.{Ring, AreRoots, IsInvertible}
use Rattle.p3_field.proofs.Rings
use Rattle.p3_field.proofs.RingSolver.{solve, va, vb, vc, ◌⊞◌, ◌⊠◌, zeroₑ}
use Rattle.examples.specs.Quadratics.{embedded, quadratic}

pub both : {A B : Type 0} {a c : A} {b d : B} → a ≡ c → b ≡ d → ◌≡◌ {A = A × B} (a, b) (c, d)
both e f = ap₂ (λ a b. (a, b)) e f

-- ---- a number for two numbers
abbrev pub paired : ℕ → ℕ → ℕ
paired a b = (a + b) * (a + b) + a

apart : (s t a c : ℕ) → a ≤ s → s < t → s * s + a ≡ t * t + c → ⊥
apart s t a c small less same =
    let more : suc s * suc s ≤ t * t = mul-le-mul (omega (arith, less)) (omega (arith, less)) in
    let square : suc s * suc s ≡ s * s + 2 * s + 1 = omega arith in
    omega (arith, more, square, same, small)

paired_parts : (a b c d : ℕ) → paired a b ≡ paired c d → (a ≡ c) × (b ≡ d)
paired_parts a b c d same = elim (cases_order (a + b) (c + d)) [
  | inl e ↦ let squares : (a + b) * (a + b) ≡ (c + d) * (c + d) = ap (λ s. s * s) e in
      (omega (arith, e, squares, same), omega (arith, e, squares, same))
  | inr (inl less) ↦ absurd (apart (a + b) (c + d) a c (omega arith) less same)
  | inr (inr more) ↦ absurd (apart (c + d) (a + b) c a (omega arith) more (sym same))
]

pub paired_law : {A : Type 0} (number : A → ℕ) → ((x y : A) → number x ≡ number y → x ≡ y) → (x y : A × A)
    → paired (number x.0) (number x.1) ≡ paired (number y.0) (number y.1) → x ≡ y
paired_law number law x y same =
    let parts = paired_parts (number x.0) (number x.1) (number y.0) (number y.1) same in
    both (law x.0 y.0 parts.0) (law x.1 y.1 parts.1)

-- ---- equality and order, coordinate by coordinate
pub both_equal : {A : Type 0} (s t : Bool) (a b c d : A) → IsTrue s ↔ (a ≡ c) → IsTrue t ↔ (b ≡ d) → IsTrue (s && t) ↔ (◌≡◌ {A = A × A} (a, b) (c, d))
both_equal s t a b c d one other = (
  λ both_true. let parts = and_parts s t both_true in both (one.0 parts.0) (other.0 parts.1),
  λ e. and_from s t (one.1 (ap (λ x. x.0) e)) (other.1 (ap (λ x. x.1) e)),
)

module _ {A : Type 0} (r : Ring A) (w : A) where
  open r use {add as ◌⊕◌, mul as ◌⊗◌, neg, zero as 𝟘, one as 𝟙}

  infixl 60 ◌⊕◌
  infixl 70 ◌⊗◌
  -- ---- the ring below
  pub embedded-mul : (a b : A) → (quadratic r w).mul (embedded r w a) (embedded r w b) ≡ embedded r w (a ⊗ b)
  embedded-mul a b =
      both (solve r (a ∷ b ∷ w ∷ []) (va ⊠ vb ⊞ vc ⊠ (zeroₑ ⊠ zeroₑ)) (va ⊠ vb) refl) (solve r (a ∷ b ∷ []) (va ⊠ zeroₑ ⊞ zeroₑ ⊠ vb) zeroₑ refl)

  pub embedded-add : (a b : A) → (quadratic r w).add (embedded r w a) (embedded r w b) ≡ embedded r w (a ⊕ b)
  embedded-add a b = both refl (r.add_zero 𝟘)

  pub embedded-neg : (a : A) → embedded r w (neg a) ≡ (quadratic r w).neg (embedded r w a)
  embedded-neg a = both refl (sym (Rings.neg-zero r))

  pub embedded_inverse : (a z : A) → z ≡ 𝟘 → IsInvertible r a → IsInvertible (quadratic r w) (a, z)
  embedded_inverse a z none (b, one) = (embedded r w b, ap (λ x. (quadratic r w).mul (a, x) (embedded r w b)) none ∙ embedded-mul a b ∙ ap (embedded r w) one)

  pub embedded_roots : {g : ℕ → A} {bits : ℕ} {z : A} → z ≡ 𝟘 → AreRoots r bits g → AreRoots (quadratic r w) bits (λ i. (g i, z))
  embedded_roots {g} {bits} none roots = subst (λ (x : A). AreRoots (quadratic r w) bits (λ i. (g i, x))) (sym none) (record {
    first = ap (embedded r w) roots.first;
    second = ap (embedded r w) roots.second ∙ embedded-neg 𝟙;
    square = λ i below. embedded-mul (g (suc i)) (g (suc i)) ∙ ap (embedded r w) (roots.square i below);
  })
