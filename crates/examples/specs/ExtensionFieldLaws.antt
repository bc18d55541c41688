-- Proofs, and no definitions: what extension fields by quadratic steps owe.
use Rattle.std.proofs.Common.{◌≡◌, ℕ, zero, suc, ◌<◌, [], ◌∷◌, refl, sym, ap, ap₂, ◌∙◌, arith}
use Rattle.p3_field.specs.Ring.{Ring, power}
use Rattle.p3_field.proofs.RingSolver.{solve, va, vb, vc, vd, ve, ◌⊞◌, ◌⊠◌, zeroₑ, oneₑ}
use Rattle.p3_matrix.specs.Polynomials.{poly}
use Rattle.examples.specs.ExtensionFields.{IsEmbedding}
use Rattle.examples.specs.QuadraticFields.{both, embedded-add, embedded-mul}
use Rattle.examples.specs.Quadratics.{embedded, quadratic}

module _ {A : Type 0} (q : Ring A) where
  open q use {add as ◌⊕◌, mul as ◌⊗◌, zero as 𝟘, one as 𝟙}

  infixl 60 ◌⊕◌
  infixl 70 ◌⊗◌
  poly-two : (c : ℕ → A) (x : A) → c 0 ⊕ x ⊗ c 1 ≡ poly q 2 c x
  unfolding poly
  poly-two c x = solve q (c 0 ∷ c 1 ∷ x ∷ []) (va ⊞ vc ⊠ vb) (va ⊞ vc ⊠ (vb ⊞ vc ⊠ zeroₑ)) refl

  poly-four : (c : ℕ → A) (x : A) → (c 0 ⊕ x ⊗ x ⊗ c 2) ⊕ x ⊗ (c 1 ⊕ x ⊗ x ⊗ c 3) ≡ poly q 4 c x
  unfolding poly
  poly-four c x =
      solve q (c 0 ∷ c 1 ∷ c 2 ∷ c 3 ∷ x ∷ []) ((va ⊞ ve ⊠ ve ⊠ vc) ⊞ ve ⊠ (vb ⊞ ve ⊠ ve ⊠ vd)) (va ⊞ ve ⊠ (vb ⊞ ve ⊠ (vc ⊞ ve ⊠ (vd ⊞ ve ⊠ zeroₑ)))) refl

  power-two : (x : A) → power q x 2 ≡ x ⊗ x
  unfolding power
  power-two x = solve q (x ∷ []) (va ⊠ (va ⊠ oneₑ)) (va ⊠ va) refl

  power-four : (x : A) → power q x 4 ≡ (x ⊗ x) ⊗ (x ⊗ x)
  unfolding power
  power-four x = solve q (x ∷ []) (va ⊠ (va ⊠ (va ⊠ (va ⊠ oneₑ)))) ((va ⊠ va) ⊠ (va ⊠ va)) refl

module _ {A : Type 0} (r : Ring A) (w : A) where
  -- ---- one step, with the root (z, o)
  pub one_step_embeds : IsEmbedding r (quadratic r w) (embedded r w)
  one_step_embeds = record {
    zero = refl;
    one = refl;
    add = λ a b. sym (embedded-add r w a b);
    mul = λ a b. sym (embedded-mul r w a b);
    apart = λ a b same. ap (λ x. x.0) same;
  }

  module _ (z o : A) (none : z ≡ r.zero) (unit : o ≡ r.one) where
    root-square : (quadratic r w).mul (z, o) (z, o) ≡ embedded r w w
    root-square =
        ap₂ (λ x y. (quadratic r w).mul (x, y) (x, y)) none unit
        ∙ both (solve r (w ∷ []) (zeroₑ ⊠ zeroₑ ⊞ va ⊠ (oneₑ ⊠ oneₑ)) va refl) (solve r (w ∷ []) (zeroₑ ⊠ oneₑ ⊞ oneₑ ⊠ zeroₑ) zeroₑ refl)

    two_parts : (a b : A) → (a, b) ≡ (quadratic r w).add (embedded r w a) ((quadratic r w).mul (z, o) (embedded r w b))
    two_parts a b =
        both (solve r (a ∷ b ∷ w ∷ []) va (va ⊞ (zeroₑ ⊠ vb ⊞ vc ⊠ (oneₑ ⊠ zeroₑ))) refl) (solve r (a ∷ b ∷ []) vb (zeroₑ ⊞ (zeroₑ ⊠ zeroₑ ⊞ oneₑ ⊠ vb)) refl)
        ∙ ap₂ (λ x y. (quadratic r w).add (embedded r w a) ((quadratic r w).mul (x, y) (embedded r w b))) (sym none) (sym unit)

    pub one_step_polynomial : (c : ℕ → A) → (c 0, c 1) ≡ poly (quadratic r w) 2 (λ t. embedded r w (c t)) (z, o)
    one_step_polynomial c = two_parts (c 0) (c 1) ∙ poly-two (quadratic r w) (λ t. embedded r w (c t)) (z, o)

    pub one_step_top : power (quadratic r w) (z, o) 2 ≡ embedded r w w
    one_step_top = power-two (quadratic r w) (z, o) ∙ root-square

-- ---- a step by the root of a step
module _ {A : Type 0} (r : Ring A) (w z o : A) (none : z ≡ r.zero) (unit : o ≡ r.one) where
  abbrev below : Ring (A × A)
  below = quadratic r w

  abbrev ring : Ring ((A × A) × (A × A))
  ring = quadratic below (z, o)

  abbrev twice : A → (A × A) × (A × A)
  twice a = embedded below (z, o) (embedded r w a)

  abbrev root : (A × A) × (A × A)
  root = ((z, z), (o, z))

  root_none : ◌≡◌ {A = A × A} (z, z) below.zero
  root_none = both none none

  root_unit : ◌≡◌ {A = A × A} (o, z) below.one
  root_unit = both unit none

  pub two_steps_embed : IsEmbedding r (quadratic (quadratic r w) (z, o)) (λ a. embedded (quadratic r w) (z, o) (embedded r w a))
  two_steps_embed = record {
    zero = refl;
    one = refl;
    add = λ a b. ap (embedded below (z, o)) (sym (embedded-add r w a b)) ∙ sym (embedded-add below (z, o) (embedded r w a) (embedded r w b));
    mul = λ a b. ap (embedded below (z, o)) (sym (embedded-mul r w a b)) ∙ sym (embedded-mul below (z, o) (embedded r w a) (embedded r w b));
    apart = λ a b same. ap (λ x. x.0.0) same;
  }

  -- an element of the step below, by the square of the root above
  lifted_parts : (a b : A) → embedded below (z, o) (a, b) ≡ ring.add (twice a) (ring.mul (ring.mul root root) (twice b))
  lifted_parts a b =
      ap (embedded below (z, o)) (two_parts r w z o none unit a b)
      ∙ sym (embedded-add below (z, o) (embedded r w a) (below.mul (z, o) (embedded r w b)))
      ∙ ap (ring.add (twice a)) (sym (embedded-mul below (z, o) (z, o) (embedded r w b))
      ∙ ap (λ y. ring.mul y (twice b)) (sym (root-square below (z, o) (z, z) (o, z) root_none root_unit)))

  pub two_steps_polynomial : (c : ℕ → A)
      → ((c 0, c 2), (c 1, c 3))
      ≡ poly (quadratic (quadratic r w) (z, o)) 4 (λ t. embedded (quadratic r w) (z, o) (embedded r w (c t)))
      ((z, z), (o, z))
  two_steps_polynomial c =
      two_parts below (z, o) (z, z) (o, z) root_none root_unit (c 0, c 2) (c 1, c 3)
      ∙ ap₂ (λ x y. ring.add x (ring.mul root y)) (lifted_parts (c 0) (c 2)) (lifted_parts (c 1) (c 3))
      ∙ poly-four ring (λ t. twice (c t)) root

  pub two_steps_top : power (quadratic (quadratic r w) (z, o)) ((z, z), (o, z)) 4 ≡ embedded (quadratic r w) (z, o) (embedded r w w)
  two_steps_top =
      let square = root-square below (z, o) (z, z) (o, z) root_none root_unit in
      power-four ring root ∙ ap₂ ring.mul square square ∙ embedded-mul below (z, o) (z, o) (z, o)
      ∙ ap (embedded below (z, o)) (root-square r w z o none unit)

-- ---- lists of two and of four
pub parts_of_two : {A : Type 0} {a b c d : A} → a ∷ b ∷ [] ≡ c ∷ d ∷ [] → (a ≡ c) × (b ≡ d)
parts_of_two same = (cc, cc)

pub parts_of_four : {A : Type 0} {a b c d e f g h : A} → a ∷ b ∷ c ∷ d ∷ [] ≡ e ∷ f ∷ g ∷ h ∷ [] → ((a ≡ e) × (b ≡ f)) × ((c ≡ g) × (d ≡ h))
parts_of_four same = ((cc, cc), (cc, cc))

-- what holds of each place below two, and below four
pub below_two : (P : ℕ → Type 0) → P 0 → P 1 → (t : ℕ) → t < 2 → P t
below_two P a b zero below = a
below_two P a b (suc zero) below = b
below_two P a b (suc (suc t)) below = absurd (omega (arith, below))

pub below_four : (P : ℕ → Type 0) → P 0 → P 1 → P 2 → P 3 → (t : ℕ) → t < 4 → P t
below_four P a b c d zero below = a
below_four P a b c d (suc zero) below = b
below_four P a b c d (suc (suc zero)) below = c
below_four P a b c d (suc (suc (suc zero))) below = d
below_four P a b c d (suc (suc (suc (suc t)))) below = absurd (omega (arith, below))
