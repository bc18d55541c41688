-- Low rows: t stands in the low l digits of a row's number, and j reversed in the m others. Decimation in time from reversed rows.
use Rattle.p3_networks.proofs.Names.{◌≡◌, ℕ, suc, ◌+◌, ◌*◌, ◌<◌, ◌/◌, ◌%◌, ◌^◌, sym, ap, ap₂, ◌∙◌, arith, mod-eq_of_lt, div-mul-add, mod-mul-add, Ring}
use Rattle.p3_networks.proofs.Names.{AreRoots, power, rev, dit_near, dit_far, rev-block, rev-lt, rev-rev, rev-zero, rev-even, rev-odd, poly, poly_same, point}
use Rattle.p3_networks.proofs.Networks.Formulas.{Formula}
use Rattle.p3_networks.proofs.Networks.Stages.{stage, twiddle, stage_start, stage_end, stage_near, stage_far}

abbrev pub held_low : {A : Type 0} → (ℕ → ℕ → A) → ℕ → ℕ → ℕ → A
held_low held l m r = held (rev m (r / 2 ^ l)) (r % 2 ^ l)

pub held_low_at : {A : Type 0} (held : ℕ → ℕ → A) (l m b t : ℕ) → t < 2 ^ l → held_low held l m (b * 2 ^ l + t) ≡ held (rev m b) t
held_low_at held l m b t h = ap₂ (λ x y. held (rev m x) y) (div-mul-add b (2 ^ l) t h) (mod-mul-add b (2 ^ l) t h)

-- the rows of a block of the next layer
pub held_next : {A : Type 0} (held : ℕ → ℕ → A) (l m b u : ℕ) → u < 2 * 2 ^ l → held_low held (suc l) m (b * (2 * 2 ^ l) + u) ≡ held (rev m b) u
held_next held l m b u h =
    let e : 2 * 2 ^ l ≡ 2 ^ suc l = omega arith in
    ap (held_low held (suc l) m) (ap (λ x. b * x + u) e) ∙ held_low_at held (suc l) m b u (omega (arith, e, h))

module _ {A : Type 0} (held : ℕ → ℕ → A) (l m : ℕ) where
  -- with one digit more for j: its first digit says in which half of a block of the next layer the row is
  pub held_first : (b t : ℕ) → t < 2 ^ l → held_low held l (suc m) (b * (2 * 2 ^ l) + t) ≡ held (rev m b) t
  held_first b t h =
      let d : b * (2 * 2 ^ l) + t ≡ (2 * b) * 2 ^ l + t = omega arith in
      ap (held_low held l (suc m)) d ∙ held_low_at held l (suc m) (2 * b) t h ∙ ap (λ x. held x t) (rev-even m b)

  pub held_second : (b t : ℕ) → t < 2 ^ l → held_low held l (suc m) (b * (2 * 2 ^ l) + (2 ^ l + t)) ≡ held (2 ^ m + rev m b) t
  held_second b t h =
      let d : b * (2 * 2 ^ l) + (2 ^ l + t) ≡ (2 * b + 1) * 2 ^ l + t = omega arith in
      ap (held_low held l (suc m)) d ∙ held_low_at held l (suc m) (2 * b + 1) t h ∙ ap (λ x. held x t) (rev-odd m b)

module _ {A : Type 0} (R : Ring A) (g : ℕ → A) (s : A) where
  unfoldable pub low_row : ℕ → ℕ → (ℕ → A) → ℕ → A
  low_row l m c r = held_low (stage R g s l m c) l m r

  -- before the first layer, and after the last
  pub low_start : (m : ℕ) (c : ℕ → A) (r : ℕ) → low_row 0 m c r ≡ c (rev m r)
  unfolding low_row
  low_start m c r = stage_start R g s m c _ _ ∙ ap (λ x. c (rev m x)) (omega arith)

  pub low_end : (l : ℕ) (c : ℕ → A) (r : ℕ) → r < 2 ^ l → low_row l 0 c r ≡ poly R (2 ^ l) c (point R g l s r)
  unfolding low_row
  low_end l c r h = ap₂ (stage R g s l 0 c) (rev-zero (r / 2 ^ l)) (mod-eq_of_lt h) ∙ stage_end R g s l c r

  -- in the rows x a chunk of 2 ^ l of 2 ^ m ends as a network of its own on its rows
  pub low_chunk : (l m : ℕ) (x : ℕ → A) (b t : ℕ) → b < 2 ^ m → t < 2 ^ l
      → low_row l m (λ q. x (rev (m + l) q)) (b * 2 ^ l + t) ≡ poly R (2 ^ l) (λ q. x (b * 2 ^ l + rev l q)) (R.mul (power R s (2 ^ m)) (power R (g l) t))
  unfolding low_row stage
  low_chunk l m x b t chunk place =
      held_low_at (stage R g s l m (λ q. x (rev (m + l) q))) l m b t place
      ∙ poly_same R (2 ^ l) _ _ _ (λ q below. ap x (rev-block m l q (rev m b) (rev-lt m b) ∙ ap (λ n. n * 2 ^ l + rev l q) (rev-rev m b chunk)))

  -- one twiddle for a place in a block
  pub low_rows : {bits : ℕ} (G : AreRoots R bits g) (c : ℕ → A)
      → Formula bits (λ l m. 2 ^ l) (λ l m b t. dit_near R (twiddle R g s l m t)) (λ l m b t. dit_far R (twiddle R g s l m t)) (λ l m. low_row l m c)
  unfolding low_row
  low_rows G c = record {
    near_row = λ l m b t y h.
        held_next (stage R g s (suc l) m c) l m b t (omega arith) ∙ stage_near R g s G l m c (rev m b) t (omega arith)
        ∙ sym (ap₂ (dit_near R (twiddle R g s l m t)) (held_first (stage R g s l (suc m) c) l m b t h) (held_second (stage R g s l (suc m) c) l m b t h));
    far_row = λ l m b t y h.
        held_next (stage R g s (suc l) m c) l m b (2 ^ l + t) (omega arith) ∙ stage_far R g s G l m c (rev m b) t (omega arith)
        ∙ sym (ap₂ (dit_far R (twiddle R g s l m t)) (held_first (stage R g s l (suc m) c) l m b t h) (held_second (stage R g s l (suc m) c) l m b t h));
  }
