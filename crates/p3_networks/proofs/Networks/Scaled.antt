-- A butterfly whose outputs are multiplied by a scale is one on inputs that are, and one whose twiddle is one needs none.
use Rattle.p3_networks.proofs.Names.{◌≡◌, refl, sym, ap, ◌∙◌, [], ◌∷◌, Ring, minus, solve, va, vb, vc, vd, ◌⊞◌, ◌⊟◌, ◌⊠◌, dit_near, dit_far, scaled_dit_near}
use Rattle.p3_networks.proofs.Names.{scaled_dit_far}

module _ {A : Type 0} (R : Ring A) where
  pub scaled_near : (t s x y : A) → scaled_dit_near R t s x y ≡ dit_near R t (R.mul x s) (R.mul y s)
  scaled_near t s x y = solve R (t ∷ s ∷ x ∷ y ∷ []) ((vc ⊞ vd ⊠ va) ⊠ vb) (vc ⊠ vb ⊞ (vd ⊠ vb) ⊠ va) refl

  pub scaled_far : (t s x y : A) → scaled_dit_far R t s x y ≡ dit_far R t (R.mul x s) (R.mul y s)
  scaled_far t s x y = solve R (t ∷ s ∷ x ∷ y ∷ []) ((vc ⊟ vd ⊠ va) ⊠ vb) (vc ⊠ vb ⊟ (vd ⊠ vb) ⊠ va) refl

-- with the twiddle one, a pair meets as without a twiddle
pub free_dit_near : {A : Type 0} (R : Ring A) (t x y : A) → t ≡ R.one → R.add x y ≡ dit_near R t x y
free_dit_near R t x y one = ap (R.add x) (sym (ap (R.mul y) one ∙ R.mul_one y))

pub free_dit_far : {A : Type 0} (R : Ring A) (t x y : A) → t ≡ R.one → minus R x y ≡ dit_far R t x y
free_dit_far R t x y one = ap (minus R x) (sym (ap (R.mul y) one ∙ R.mul_one y))
