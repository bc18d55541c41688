-- Stages of a transform. After l of k layers a row holds `stage l m c j t` for some j below 2 ^ m and t below 2 ^ l, where l + m is k:
-- the value, at the t-th point of size 2 ^ l, of the polynomial of every 2 ^ m-th coefficient from the j-th on.
-- The networks differ only in where j and t stand in the row's number, and in a factor. The shift s is that of the coset. The roots are any
-- that square to one another: with the inverse roots a network is the inverse one.
use Rattle.p3_networks.proofs.Names.{◌≡◌, ℕ, suc, ◌+◌, ◌*◌, ◌-◌, ◌<◌, ◌≤◌, ◌^◌, refl, sym, ap, ap₂, ◌∙◌, [], ◌∷◌, arith, add-one, mul-le-mul_right, pow_pos}
use Rattle.p3_networks.proofs.Names.{Ring, power, AreRoots, solve, va, vb, ◌⊠◌, power-one, power-add, power_of_one, root_squared, root_across, root_round}
use Rattle.p3_networks.proofs.Names.{dit_near, dit_far, poly, point, point-mul, poly-one, poly_padded, poly_same, poly-split}
use Rattle.p3_field.proofs.Rings

module _ {A : Type 0} (R : Ring A) (g : ℕ → A) (s : A) where
  open R use {add as ◌⊕◌, mul as ◌⊗◌, neg, zero as 𝟘, one as 𝟙}

  infixl 60 ◌⊕◌
  infixl 70 ◌⊗◌
  -- the t-th value after l layers, of every 2 ^ m-th coefficient from the j-th on
  unfoldable pub stage : ℕ → ℕ → (ℕ → A) → ℕ → ℕ → A
  stage l m c j t = poly R (2 ^ l) (λ q. c (q * 2 ^ m + j)) (power R s (2 ^ m) ⊗ power R (g l) t)

  -- the twiddle of the layer from l to l + 1
  unfoldable pub twiddle : ℕ → ℕ → ℕ → A
  twiddle l m t = power R s (2 ^ m) ⊗ power R (g (suc l)) t

  -- as a table of the coset has it
  pub twiddle_is : (l m t : ℕ) → twiddle l m t ≡ power R s (2 ^ m) ⊗ power R (g (l + 1)) t
  unfolding twiddle
  twiddle_is l m t = ap (λ n. power R s (2 ^ m) ⊗ power R (g n) t) (sym (add-one l))

  -- before the first layer, and after the last
  pub stage_start : (m : ℕ) (c : ℕ → A) (j t : ℕ) → stage 0 m c j t ≡ c j
  unfolding stage
  stage_start m c j t = let e : 0 * 2 ^ m + j ≡ j = omega arith in poly-one R _ _ ∙ ap c e

  pub stage_end : (l : ℕ) (c : ℕ → A) (t : ℕ) → stage l 0 c 0 t ≡ poly R (2 ^ l) c (point R g l s t)
  unfolding stage
  stage_end l c t =
      poly_same R (2 ^ l) _ c _ (λ q h. ap c (omega arith))
      ∙ ap (λ x. poly R (2 ^ l) c (x ⊗ power R (g l) t)) (power-one R s)
      ∙ ap (poly R (2 ^ l) c) (sym (point-mul R g l s t))

  -- where nothing stands from place 2 ^ m on, a stage is a coefficient
  pub stage_of_zeros : (l m : ℕ) (c : ℕ → A) (j t : ℕ) → ((q : ℕ) → 2 ^ m ≤ q → c q ≡ 𝟘) → stage l m c j t ≡ c j
  unfolding stage
  stage_of_zeros l m c j t zeros =
      let x = power R s (2 ^ m) ⊗ power R (g l) t in
      let f = λ (q : ℕ). c (q * 2 ^ m + j) in
      let some = pow_pos l in
      let all : 2 ^ l ≡ 1 + (2 ^ l - 1) = omega (arith, some) in
      let first : 0 * 2 ^ m + j ≡ j = omega arith in
      ap (λ n. poly R n f x) all
      ∙ poly_padded R 1 (2 ^ l - 1) f x (λ q more below. zeros (q * 2 ^ m + j)
      (let past : 1 * 2 ^ m ≤ q * 2 ^ m = mul-le-mul_right (2 ^ m) more in omega (arith, past)))
      ∙ poly-one R f x ∙ ap c first

  -- the even and the odd places of a stage's polynomial are two polynomials of the stage before
  stage_split : (l m : ℕ) (c : ℕ → A) (j t : ℕ) (x : A) → x ⊗ x ≡ power R s (2 ^ suc m) ⊗ power R (g l) t →
      poly R (2 ^ suc l) (λ q. c (q * 2 ^ m + j)) x ≡ stage l (suc m) c j t ⊕ x ⊗ stage l (suc m) c (2 ^ m + j) t
  unfolding stage
  stage_split l m c j t x e =
      let d : 2 ^ suc l ≡ 2 * 2 ^ l = omega arith in
      let p : 2 ^ suc m ≡ 2 * 2 ^ m = omega arith in
      let even = λ (q : ℕ). let a : (2 * q) * 2 ^ m + j ≡ q * (2 * 2 ^ m) + j = omega arith in a ∙ ap (λ z. q * z + j) (sym p) in
      let odd = λ (q : ℕ). let a : (2 * q + 1) * 2 ^ m + j ≡ q * (2 * 2 ^ m) + (2 ^ m + j) = omega arith in a ∙ ap (λ z. q * z + (2 ^ m + j)) (sym p) in
      ap (λ n. poly R n (λ q. c (q * 2 ^ m + j)) x) d ∙ poly-split R (2 ^ l) (λ q. c (q * 2 ^ m + j)) x
      ∙ ap₂ (λ y z. y ⊕ x ⊗ z) (poly_same R (2 ^ l) _ _ (x ⊗ x) (λ q h. ap c (even q))) (poly_same R (2 ^ l) _ _ (x ⊗ x) (λ q h. ap c (odd q)))
      ∙ ap (λ z. poly R (2 ^ l) (λ q. c (q * 2 ^ suc m + j)) z ⊕ x ⊗ poly R (2 ^ l) (λ q. c (q * 2 ^ suc m + (2 ^ m + j))) z) e

  twiddle_squared : {bits : ℕ} (G : AreRoots R bits g) (l m t : ℕ) → l < bits → twiddle l m t ⊗ twiddle l m t ≡ power R s (2 ^ suc m) ⊗ power R (g l) t
  unfolding twiddle
  twiddle_squared G l m t y =
      let p : 2 ^ suc m ≡ 2 ^ m + 2 ^ m = omega arith in
      solve R (power R s (2 ^ m) ∷ power R (g (suc l)) t ∷ []) ((va ⊠ vb) ⊠ (va ⊠ vb)) ((va ⊠ va) ⊠ (vb ⊠ vb)) refl
      ∙ ap₂ ◌⊗◌ (sym (ap (power R s) p ∙ power-add R s (2 ^ m) (2 ^ m))) (root_squared R G l t y)

  -- a butterfly: its near output, and then its far one, half the circle on
  pub stage_near : {bits : ℕ} (G : AreRoots R bits g) (l m : ℕ) (c : ℕ → A) (j t : ℕ) → l < bits →
      stage (suc l) m c j t ≡ dit_near R (twiddle l m t) (stage l (suc m) c j t) (stage l (suc m) c (2 ^ m + j) t)
  stage_near G l m c j t y =
      opened l m c j t ∙ stage_split l m c j t (twiddle l m t) (twiddle_squared G l m t y)
      ∙ ap (λ x. stage l (suc m) c j t ⊕ x) (R.mul_comm _ _)
    where
      opened : (l m : ℕ) (c : ℕ → A) (j t : ℕ) → stage (suc l) m c j t ≡ poly R (2 ^ suc l) (λ q. c (q * 2 ^ m + j)) (twiddle l m t)
      opened l m c j t = unfold stage twiddle in refl

  twiddle_far : {bits : ℕ} (G : AreRoots R bits g) (l m t : ℕ) → l < bits → twiddle l m (2 ^ l + t) ≡ neg (twiddle l m t)
  unfolding twiddle
  twiddle_far G l m t y = ap (λ x. power R s (2 ^ m) ⊗ x) (root_across R G l t y) ∙ Rings.mul-neg R _ _

  stage_round : {bits : ℕ} (G : AreRoots R bits g) (l m : ℕ) (c : ℕ → A) (j t : ℕ) → l ≤ bits → stage l m c j (2 ^ l + t) ≡ stage l m c j t
  unfolding stage
  stage_round G l m c j t y = ap (λ x. poly R (2 ^ l) (λ q. c (q * 2 ^ m + j)) (power R s (2 ^ m) ⊗ x)) (root_round R G l t y)

  pub stage_far : {bits : ℕ} (G : AreRoots R bits g) (l m : ℕ) (c : ℕ → A) (j t : ℕ) → l < bits →
      stage (suc l) m c j (2 ^ l + t) ≡ dit_far R (twiddle l m t) (stage l (suc m) c j t) (stage l (suc m) c (2 ^ m + j) t)
  stage_far G l m c j t y = stage_near G l m c j (2 ^ l + t) y
      ∙ ap₂ ◌⊕◌ (stage_round G l (suc m) c j t (omega arith)) (ap₂ ◌⊗◌ (stage_round G l (suc m) c (2 ^ m + j) t (omega arith)) (twiddle_far G l m t y)
      ∙ Rings.mul-neg R _ _)

-- on the subgroup itself a twiddle is a power of the next generator
pub twiddle_of_one : {A : Type 0} (R : Ring A) (g : ℕ → A) (l m t : ℕ) → twiddle R g R.one l m t ≡ power R (g (suc l)) t
unfolding twiddle
twiddle_of_one R g l m t = ap (λ x. R.mul x (power R (g (suc l)) t)) (power_of_one R (2 ^ m)) ∙ Rings.one-mul R _
