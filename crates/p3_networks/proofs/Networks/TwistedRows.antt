-- Twisted rows: low rows with a factor. Decimation in frequency from reversed rows.
use Rattle.p3_networks.proofs.Names.{◌≡◌, ℕ, suc, ◌+◌, ◌*◌, ◌<◌, ◌≤◌, ◌^◌, ◌/◌, ◌%◌, refl, sym, ap, ap₂, ◌∙◌, [], ◌∷◌, arith, mod-eq_of_lt, Ring, power}
use Rattle.p3_networks.proofs.Names.{AreRoots, solve, va, vb, vc, vd, ◌⊠◌, ◌⊟◌, power-zero, power-one, power-add, power_of_product, power-mul, root_strided}
use Rattle.p3_networks.proofs.Names.{rev, dif_near, dif_far, rev-zero, poly, point}
use Rattle.p3_networks.proofs.Networks.Formulas.{Formula}
use Rattle.p3_networks.proofs.Networks.LowRows.{held_low, held_low_at, held_first, held_second, held_next}
use Rattle.p3_networks.proofs.Networks.Stages.{stage, twiddle, stage_of_zeros, stage_start, stage_end, stage_near, stage_far}
use Rattle.p3_field.proofs.Rings

module _ {A : Type 0} (R : Ring A) (g : ℕ → A) (s : A) where
  open R use {add as ◌⊕◌, mul as ◌⊗◌, neg, zero as 𝟘, one as 𝟙}

  infixl 60 ◌⊕◌
  infixl 70 ◌⊗◌
  -- the factor is the j-th power of the point
  unfoldable pub twisted : ℕ → ℕ → (ℕ → A) → ℕ → ℕ → A
  twisted l m c j t = power R (s ⊗ power R (g (l + m)) t) j ⊗ stage R g s l m c j t

  pub twisted_start : (m : ℕ) (c : ℕ → A) (j : ℕ) → twisted 0 m c j 0 ≡ power R s j ⊗ c j
  unfolding twisted
  twisted_start m c j = ap₂ (λ x y. power R (s ⊗ x) j ⊗ y) (power-zero R _) (stage_start R g s m c j 0) ∙ ap (λ x. power R x j ⊗ c j) (R.mul_one s)

  pub twisted_end : (l : ℕ) (c : ℕ → A) (t : ℕ) → twisted l 0 c 0 t ≡ poly R (2 ^ l) c (point R g l s t)
  unfolding twisted
  twisted_end l c t = ap₂ ◌⊗◌ (power-zero R _) (stage_end R g s l c t) ∙ Rings.one-mul R _

  -- the factor of the far half
  twisted_factor : {bits : ℕ} (G : AreRoots R bits g) (l m t : ℕ) → suc l + m ≤ bits → power R (s ⊗ power R (g (suc l + m)) t) (2 ^ m) ≡ twiddle R g s l m t
  unfolding twiddle
  twisted_factor G l m t y = power_of_product R _ _ (2 ^ m) ∙ ap (λ x. power R s (2 ^ m) ⊗ x) (sym (power-mul R _ t (2 ^ m)) ∙ root_strided R G (suc l) m t y)

  twisted_joined : {bits : ℕ} (G : AreRoots R bits g) (l m : ℕ) (c : ℕ → A) (j t : ℕ) → suc l + m ≤ bits
      → twisted l (suc m) c (2 ^ m + j) t
      ≡ power R (s ⊗ power R (g (suc l + m)) t) j ⊗ (stage R g s l (suc m) c (2 ^ m + j) t ⊗ twiddle R g s l m t)
  unfolding twisted
  twisted_joined G l m c j t y =
      let e : l + suc m ≡ suc l + m = omega arith in
      ap (λ k. power R (s ⊗ power R (g k) t) (2 ^ m + j) ⊗ stage R g s l (suc m) c (2 ^ m + j) t) e
      ∙ ap (λ x. x ⊗ stage R g s l (suc m) c (2 ^ m + j) t)
      (power-add R _ (2 ^ m) j ∙ ap (λ x. x ⊗ power R (s ⊗ power R (g (suc l + m)) t) j) (twisted_factor G l m t y))
      ∙ solve R
      (twiddle R g s l m t ∷ power R (s ⊗ power R (g (suc l + m)) t) j ∷ stage R g s l (suc m) c (2 ^ m + j) t ∷ [])
      ((va ⊠ vb) ⊠ vc) (vb ⊠ (vc ⊠ va)) refl

  twisted_plain : (l m : ℕ) (c : ℕ → A) (j t : ℕ) → twisted l (suc m) c j t ≡ power R (s ⊗ power R (g (suc l + m)) t) j ⊗ stage R g s l (suc m) c j t
  unfolding twisted
  twisted_plain l m c j t = let e : l + suc m ≡ suc l + m = omega arith in ap (λ k. power R (s ⊗ power R (g k) t) j ⊗ stage R g s l (suc m) c j t) e

  pub twisted_near : {bits : ℕ} (G : AreRoots R bits g) (l m : ℕ) (c : ℕ → A) (j t : ℕ) → suc l + m ≤ bits →
      twisted (suc l) m c j t ≡ dif_near R (power R (g (suc m)) j) (twisted l (suc m) c j t) (twisted l (suc m) c (2 ^ m + j) t)
  twisted_near G l m c j t y =
      opened l m c j t
      ∙ ap (λ x. power R (s ⊗ power R (g (suc l + m)) t) j ⊗ x) (stage_near R g s G l m c j t (omega arith))
      ∙ R.mul_add _ _ _
      ∙ sym (ap₂ ◌⊕◌ (twisted_plain l m c j t) (twisted_joined G l m c j t y))
    where
      opened : (l m : ℕ) (c : ℕ → A) (j t : ℕ) → twisted (suc l) m c j t ≡ power R (s ⊗ power R (g (suc l + m)) t) j ⊗ stage R g s (suc l) m c j t
      opened l m c j t = unfold twisted in refl

  pub twisted_far : {bits : ℕ} (G : AreRoots R bits g) (l m : ℕ) (c : ℕ → A) (j t : ℕ) → suc l + m ≤ bits →
      twisted (suc l) m c j (2 ^ l + t) ≡ dif_far R (power R (g (suc m)) j) (twisted l (suc m) c j t) (twisted l (suc m) c (2 ^ m + j) t)
  unfolding twisted
  twisted_far G l m c j t y =
      let e : suc l + m ≡ suc m + l = omega arith in
      let d : 2 ^ l ≡ 1 * 2 ^ l = omega arith in
      let root : power R (g (suc l + m)) (2 ^ l) ≡ g (suc m) = ap₂ (λ x y. power R (g x) y) e d ∙ root_strided R G (suc m) l 1 (omega arith) ∙ power-one R _ in
      let W = s ⊗ power R (g (suc l + m)) t in
      let base : s ⊗ power R (g (suc l + m)) (2 ^ l + t) ≡ W ⊗ g (suc m) =
      ap (λ x. s ⊗ x) (power-add R _ (2 ^ l) t ∙ ap (λ x. x ⊗ power R (g (suc l + m)) t) root ∙ R.mul_comm _ _) ∙ sym (R.mul_assoc _ _ _) in
      ap₂ ◌⊗◌ (ap (λ x. power R x j) base ∙ power_of_product R W (g (suc m)) j) (stage_far R g s G l m c j t (omega arith))
      ∙ solve R (power R W j ∷ power R (g (suc m)) j ∷ stage R g s l (suc m) c j t ∷ (stage R g s l (suc m) c (2 ^ m + j) t ⊗ twiddle R g s l m t) ∷ [])
      ((va ⊠ vb) ⊠ (vc ⊟ vd)) ((va ⊠ vc ⊟ va ⊠ vd) ⊠ vb) refl
      ∙ ap (λ x. x ⊗ power R (g (suc m)) j) (sym (ap₂ (λ x y. x ⊕ neg y) (twisted_plain l m c j t) (twisted_joined G l m c j t y)))

  unfoldable pub twisted_row : ℕ → ℕ → (ℕ → A) → ℕ → A
  twisted_row l m c r = held_low (twisted l m c) l m r

  pub twisted_row_start : (m : ℕ) (c : ℕ → A) (r : ℕ) → twisted_row 0 m c r ≡ power R s (rev m r) ⊗ c (rev m r)
  unfolding twisted_row
  twisted_row_start m c r =
      let e : r / 2 ^ 0 ≡ r = omega arith in
      let d : r % 2 ^ 0 ≡ 0 = omega arith in ap₂ (λ x y. twisted 0 m c (rev m x) y) e d ∙ twisted_start m c (rev m r)

  pub twisted_row_end : (l : ℕ) (c : ℕ → A) (r : ℕ) → r < 2 ^ l
      → twisted_row l 0 c r ≡ poly R (2 ^ l) c (point R g l s r)
  unfolding twisted_row
  twisted_row_end l c r h = ap₂ (twisted l 0 c) (rev-zero (r / 2 ^ l)) (mod-eq_of_lt h) ∙ twisted_end l c r

  -- where nothing stands from coefficient 2 ^ m on: row t of a chunk is its coefficient times the power of point t
  pub twisted_row_of_zeros : (l m : ℕ) (c : ℕ → A) (b t : ℕ) → ((q : ℕ) → 2 ^ m ≤ q → c q ≡ 𝟘) → t < 2 ^ l
      → twisted_row l m c (b * 2 ^ l + t) ≡ power R (s ⊗ power R (g (l + m)) t) (rev m b) ⊗ c (rev m b)
  unfolding twisted_row twisted
  twisted_row_of_zeros l m c b t zeros inside =
      held_low_at (twisted l m c) l m b t inside ∙ ap (λ y. power R (s ⊗ power R (g (l + m)) t) (rev m b) ⊗ y) (stage_of_zeros R g s l m c (rev m b) t zeros)

  -- one twiddle for a block
  pub twisted_rows : {bits : ℕ} (G : AreRoots R bits g) (c : ℕ → A)
      → Formula bits (λ l m. 2 ^ l) (λ l m b t. dif_near R (power R (g (suc m)) (rev m b)))
      (λ l m b t. dif_far R (power R (g (suc m)) (rev m b))) (λ l m. twisted_row l m c)
  unfolding twisted_row
  twisted_rows G c = record {
    near_row = λ l m b t y h.
        held_next (twisted (suc l) m c) l m b t (omega arith) ∙ twisted_near G l m c (rev m b) t y
        ∙ sym (ap₂ (dif_near R (power R (g (suc m)) (rev m b))) (held_first (twisted l (suc m) c) l m b t h) (held_second (twisted l (suc m) c) l m b t h));
    far_row = λ l m b t y h.
        held_next (twisted (suc l) m c) l m b (2 ^ l + t) (omega arith) ∙ twisted_far G l m c (rev m b) t y
        ∙ sym (ap₂ (dif_far R (power R (g (suc m)) (rev m b))) (held_first (twisted l (suc m) c) l m b t h) (held_second (twisted l (suc m) c) l m b t h));
  }
