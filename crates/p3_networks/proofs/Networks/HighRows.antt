-- High rows: j stands in the low m digits of a row's number, and t reversed in the l others. Decimation in time from natural order.
use Rattle.p3_networks.proofs.Names.{◌≡◌, ℕ, suc, ◌+◌, ◌*◌, ◌<◌, ◌/◌, ◌%◌, ◌^◌, sym, ap, ap₂, ◌∙◌, arith, mod-eq_of_lt, div-mul-add, mod-mul-add, Ring}
use Rattle.p3_networks.proofs.Names.{AreRoots, rev, dit_near, dit_far, rev-even, rev-odd, poly, point}
use Rattle.p3_networks.proofs.Networks.Formulas.{Formula}
use Rattle.p3_networks.proofs.Networks.Stages.{stage, twiddle, stage_start, stage_end, stage_near, stage_far}

module _ {A : Type 0} (R : Ring A) (g : ℕ → A) (s : A) where
  unfoldable pub high_row : ℕ → ℕ → (ℕ → A) → ℕ → A
  high_row l m c r = stage R g s l m c (r % 2 ^ m) (rev l (r / 2 ^ m))

  pub high_row_at : (l m : ℕ) (c : ℕ → A) (b j : ℕ) → j < 2 ^ m → high_row l m c (b * 2 ^ m + j) ≡ stage R g s l m c j (rev l b)
  unfolding high_row
  high_row_at l m c b j h = ap₂ (λ x y. stage R g s l m c x (rev l y)) (mod-mul-add b (2 ^ m) j h) (div-mul-add b (2 ^ m) j h)

  pub high_start : (m : ℕ) (c : ℕ → A) (r : ℕ) → r < 2 ^ m → high_row 0 m c r ≡ c r
  unfolding high_row
  high_start m c r h = stage_start R g s m c _ _ ∙ ap c (mod-eq_of_lt h)

  pub high_end : (l : ℕ) (c : ℕ → A) (r : ℕ) → high_row l 0 c r ≡ poly R (2 ^ l) c (point R g l s (rev l r))
  unfolding high_row
  high_end l c r =
      let e : r / 2 ^ 0 ≡ r = omega arith in
      let d : r % 2 ^ 0 ≡ 0 = omega arith in
      ap₂ (λ x y. stage R g s l 0 c x (rev l y)) d e ∙ stage_end R g s l c (rev l r)

  -- the first and the second half of a block, which are blocks of the next layer
  high_first : (l m : ℕ) (c : ℕ → A) (b j : ℕ) → j < 2 ^ m → high_row (suc l) m c (b * (2 * 2 ^ m) + j) ≡ stage R g s (suc l) m c j (rev l b)
  high_first l m c b j h =
      let d : b * (2 * 2 ^ m) + j ≡ (2 * b) * 2 ^ m + j = omega arith in
      ap (high_row (suc l) m c) d ∙ high_row_at (suc l) m c (2 * b) j h ∙ ap (stage R g s (suc l) m c j) (rev-even l b)

  high_second : (l m : ℕ) (c : ℕ → A) (b j : ℕ) → j < 2 ^ m → high_row (suc l) m c (b * (2 * 2 ^ m) + (2 ^ m + j)) ≡ stage R g s (suc l) m c j (2 ^ l + rev l b)
  high_second l m c b j h =
      let d : b * (2 * 2 ^ m) + (2 ^ m + j) ≡ (2 * b + 1) * 2 ^ m + j = omega arith in
      ap (high_row (suc l) m c) d ∙ high_row_at (suc l) m c (2 * b + 1) j h ∙ ap (stage R g s (suc l) m c j) (rev-odd l b)

  -- a block of the layer before
  high_block : (l m : ℕ) (c : ℕ → A) (b u : ℕ) → u < 2 * 2 ^ m → high_row l (suc m) c (b * (2 * 2 ^ m) + u) ≡ stage R g s l (suc m) c u (rev l b)
  high_block l m c b u h =
      let e : 2 * 2 ^ m ≡ 2 ^ suc m = omega arith in
      ap (high_row l (suc m) c) (ap (λ x. b * x + u) e) ∙ high_row_at l (suc m) c b u (omega (arith, e, h))

  -- one twiddle for a block
  pub high_rows : {bits : ℕ} (G : AreRoots R bits g) (c : ℕ → A)
      → Formula bits (λ l m. 2 ^ m) (λ l m b j. dit_near R (twiddle R g s l m (rev l b)))
      (λ l m b j. dit_far R (twiddle R g s l m (rev l b))) (λ l m. high_row l m c)
  high_rows G c = record {
    near_row = λ l m b j y h.
        high_first l m c b j h ∙ stage_near R g s G l m c j (rev l b) (omega arith)
        ∙ sym (ap₂ (dit_near R (twiddle R g s l m (rev l b))) (high_block l m c b j (omega arith)) (high_block l m c b (2 ^ m + j) (omega arith)));
    far_row = λ l m b j y h.
        high_second l m c b j h ∙ stage_far R g s G l m c j (rev l b) (omega arith)
        ∙ sym (ap₂ (dit_far R (twiddle R g s l m (rev l b))) (high_block l m c b j (omega arith)) (high_block l m c b (2 ^ m + j) (omega arith)));
  }
