-- Proofs, and no definitions: what makes the pairs of a quadratic step a ring, and what a field made of it owes.
use Rattle.std.proofs.Common.{◌≡◌, refl, [], ◌∷◌}
use Rattle.p3_field.specs.Ring.{Ring}
use Rattle.p3_field.proofs.RingSolver.{solve, v, va, vb, vc, vd, ve, vf, ◌⊞◌, ◌⊠◌, zeroₑ, oneₑ}

module _ {A : Type 0} (r : Ring A) (w : A) where
  open r use {add as ◌⊕◌, mul as ◌⊗◌, zero as 𝟘, one as 𝟙}

  infixl 60 ◌⊕◌
  infixl 70 ◌⊗◌
  pub constant-assoc : (a b c d e f : A) → (a ⊗ c ⊕ w ⊗ (b ⊗ d)) ⊗ e ⊕ w ⊗ ((a ⊗ d ⊕ b ⊗ c) ⊗ f) ≡ a ⊗ (c ⊗ e ⊕ w ⊗ (d ⊗ f)) ⊕ w ⊗ (b ⊗ (c ⊗ f ⊕ d ⊗ e))
  constant-assoc a b c d e f =
      solve r (a ∷ b ∷ c ∷ d ∷ e ∷ f ∷ w ∷ []) ((va ⊠ vc ⊞ v 6 ⊠ (vb ⊠ vd)) ⊠ ve ⊞ v 6 ⊠ ((va ⊠ vd ⊞ vb ⊠ vc) ⊠ vf))
      (va ⊠ (vc ⊠ ve ⊞ v 6 ⊠ (vd ⊠ vf)) ⊞ v 6 ⊠ (vb ⊠ (vc ⊠ vf ⊞ vd ⊠ ve))) refl

  pub linear-assoc : (a b c d e f : A) → (a ⊗ c ⊕ w ⊗ (b ⊗ d)) ⊗ f ⊕ (a ⊗ d ⊕ b ⊗ c) ⊗ e ≡ a ⊗ (c ⊗ f ⊕ d ⊗ e) ⊕ b ⊗ (c ⊗ e ⊕ w ⊗ (d ⊗ f))
  linear-assoc a b c d e f =
      solve r (a ∷ b ∷ c ∷ d ∷ e ∷ f ∷ w ∷ []) ((va ⊠ vc ⊞ v 6 ⊠ (vb ⊠ vd)) ⊠ vf ⊞ (va ⊠ vd ⊞ vb ⊠ vc) ⊠ ve)
      (va ⊠ (vc ⊠ vf ⊞ vd ⊠ ve) ⊞ vb ⊠ (vc ⊠ ve ⊞ v 6 ⊠ (vd ⊠ vf))) refl

  pub constant-add : (a b c d e f : A) → a ⊗ (c ⊕ e) ⊕ w ⊗ (b ⊗ (d ⊕ f)) ≡ (a ⊗ c ⊕ w ⊗ (b ⊗ d)) ⊕ (a ⊗ e ⊕ w ⊗ (b ⊗ f))
  constant-add a b c d e f =
      solve r (a ∷ b ∷ c ∷ d ∷ e ∷ f ∷ w ∷ []) (va ⊠ (vc ⊞ ve) ⊞ v 6 ⊠ (vb ⊠ (vd ⊞ vf))) ((va ⊠ vc ⊞ v 6 ⊠ (vb ⊠ vd)) ⊞ (va ⊠ ve ⊞ v 6 ⊠ (vb ⊠ vf))) refl

  pub linear-add : (a b c d e f : A) → a ⊗ (d ⊕ f) ⊕ b ⊗ (c ⊕ e) ≡ (a ⊗ d ⊕ b ⊗ c) ⊕ (a ⊗ f ⊕ b ⊗ e)
  linear-add a b c d e f =
      solve r (a ∷ b ∷ c ∷ d ∷ e ∷ f ∷ []) (va ⊠ (vd ⊞ vf) ⊞ vb ⊠ (vc ⊞ ve)) ((va ⊠ vd ⊞ vb ⊠ vc) ⊞ (va ⊠ vf ⊞ vb ⊠ ve)) refl

  pub constant-comm : (a b c d : A) → a ⊗ c ⊕ w ⊗ (b ⊗ d) ≡ c ⊗ a ⊕ w ⊗ (d ⊗ b)
  constant-comm a b c d = solve r (a ∷ b ∷ c ∷ d ∷ w ∷ []) (va ⊠ vc ⊞ ve ⊠ (vb ⊠ vd)) (vc ⊠ va ⊞ ve ⊠ (vd ⊠ vb)) refl

  pub linear-comm : (a b c d : A) → a ⊗ d ⊕ b ⊗ c ≡ c ⊗ b ⊕ d ⊗ a
  linear-comm a b c d = solve r (a ∷ b ∷ c ∷ d ∷ []) (va ⊠ vd ⊞ vb ⊠ vc) (vc ⊠ vb ⊞ vd ⊠ va) refl

  pub constant-one : (a b : A) → a ⊗ 𝟙 ⊕ w ⊗ (b ⊗ 𝟘) ≡ a
  constant-one a b = solve r (a ∷ b ∷ w ∷ []) (va ⊠ oneₑ ⊞ vc ⊠ (vb ⊠ zeroₑ)) va refl

  pub linear-one : (a b : A) → a ⊗ 𝟘 ⊕ b ⊗ 𝟙 ≡ b
  linear-one a b = solve r (a ∷ b ∷ []) (va ⊠ zeroₑ ⊞ vb ⊠ oneₑ) vb refl
