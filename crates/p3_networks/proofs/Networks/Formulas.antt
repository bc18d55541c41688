-- Formulas that layers take on: what each row holds when some layers are done and some are left, and what meets what in between.
use Rattle.p3_networks.proofs.Names.{◌≡◌, ℕ, suc, ◌+◌, ◌*◌, ◌-◌, ◌/◌, ◌<◌, ◌≤◌, ◌^◌, sym, ap, ap₂, ◌∙◌, subst, arith, add-one, div-mul-add, IsLayer, MeetHalves}
use Rattle.p3_networks.proofs.Layers.Blocks.{row_below, each_row}

-- Row r holds `rows l m r` when l layers are done and m are left. In the layer from l to l + 1 the rows come in blocks of two halves, of
-- `half l m` rows each; in block b, row t of the first half and row t of the second meet: `near` stands in the first of them, `far` in the other.
pub record Formula {A : Type 0} (bits : ℕ) (half : ℕ → ℕ → ℕ) (near far : ℕ → ℕ → ℕ → ℕ → A → A → A) (rows : ℕ → ℕ → ℕ → A) : Type 0 where
  pub near_row : (l m b t : ℕ) → suc l + m ≤ bits → t < half l m
      → rows (suc l) m (b * (2 * half l m) + t) ≡ near l m b t (rows l (suc m) (b * (2 * half l m) + t)) (rows l (suc m) (b * (2 * half l m) + (half l m + t)))
  pub far_row : (l m b t : ℕ) → suc l + m ≤ bits → t < half l m
      → rows (suc l) m (b * (2 * half l m) + (half l m + t))
      ≡ far l m b t (rows l (suc m) (b * (2 * half l m) + t)) (rows l (suc m) (b * (2 * half l m) + (half l m + t)))

module _ {A : Type 0} {bits : ℕ} {half_of : ℕ → ℕ → ℕ} {near_of far_of : ℕ → ℕ → ℕ → ℕ → A → A → A}
    {rows : ℕ → ℕ → ℕ → A} (formula : Formula bits half_of near_of far_of rows) where
  -- Layer l of k, from x to y, as a program does it: on the blocks from number `first` on, with w cells in a row. If the rows hold the formula
  -- after l layers and what meets in them is what meets in it, then they hold it after l + 1.
  pub layer_taken : (k l w half first blocks : ℕ) (near far : ℕ → ℕ → A → A → A) (x y : ℕ → A) → k ≤ bits → l < k → half ≡ half_of l (k - 1 - l)
      → ((b t : ℕ) → b < blocks → t < half → near (first + b) t ≡ near_of l (k - 1 - l) (first + b) t)
      → ((b t : ℕ) → b < blocks → t < half → far (first + b) t ≡ far_of l (k - 1 - l) (first + b) t)
      → IsLayer blocks (half * w) (λ b i. near (first + b) (i / w)) (λ b i. far (first + b) (i / w)) x y
      → (j : ℕ) → j < w → ((r : ℕ) → r < blocks * (2 * half) → x (r * w + j) ≡ rows l (k - l) (first * (2 * half) + r))
      → (r : ℕ) → r < blocks * (2 * half) → y (r * w + j) ≡ rows (l + 1) (k - (l + 1)) (first * (2 * half) + r)
  layer_taken k l w half first blocks near far x y within below is same_near same_far layer j inside start =
      each_row (λ r. y (r * w + j) ≡ rows (l + 1) (k - (l + 1)) (first * (2 * half) + r)) half blocks (λ b t p q. (
        ap y (sym (low_at b t)) ∙ (layer b p).near_cell (t * w + j) (row_below t j w half q inside) ∙ met (near (first + b)) b t p q
            ∙ ap (λ f. f (held b t) (held b (half + t))) (same_near b t p q) ∙ near_held b t q,
        ap y (sym (high_at b t)) ∙ (layer b p).far_cell (t * w + j) (row_below t j w half q inside) ∙ met (far (first + b)) b t p q
            ∙ ap (λ f. f (held b t) (held b (half + t))) (same_far b t p q) ∙ far_held b t q,
      ))
    where
      m : ℕ
      m = k - 1 - l

      held : ℕ → ℕ → A
      held b u = rows l (suc m) ((first + b) * (2 * half_of l m) + u)

      low_at : (b t : ℕ) → b * (2 * (half * w)) + (t * w + j) ≡ (b * (2 * half) + t) * w + j
      low_at b t = omega arith

      high_at : (b t : ℕ) → b * (2 * (half * w)) + (half * w + (t * w + j)) ≡ (b * (2 * half) + (half + t)) * w + j
      high_at b t = omega arith

      place : (b u : ℕ) → first * (2 * half) + (b * (2 * half) + u) ≡ (first + b) * (2 * half_of l m) + u
      place b u =
          let spread : first * (2 * half) + (b * (2 * half) + u) ≡ (first + b) * (2 * half) + u = omega arith in
          spread ∙ ap (λ h. (first + b) * (2 * h) + u) is

      met : (f : ℕ → A → A → A) (b t : ℕ) → b < blocks → t < half
          → f ((t * w + j) / w) (x (b * (2 * (half * w)) + (t * w + j)))
          (x (b * (2 * (half * w)) + (half * w + (t * w + j))))
          ≡ f t (held b t) (held b (half + t))
      met f b t p q =
          ap (λ u. f u (x (b * (2 * (half * w)) + (t * w + j))) (x (b * (2 * (half * w)) + (half * w + (t * w + j))))) (div-mul-add t w j inside)
          ∙ ap₂ (f t) (ap x (low_at b t) ∙ begun b t p (omega arith)) (ap x (high_at b t) ∙ begun b (half + t) p (omega arith))
        where
          begun : (b u : ℕ) → b < blocks → u < 2 * half → x ((b * (2 * half) + u) * w + j) ≡ held b u
          begun b u p q = start _ (row_below b u (2 * half) blocks p q) ∙ ap₂ (rows l) (omega arith) (place b u)

      near_held : (b t : ℕ) → t < half
          → near_of l m (first + b) t (held b t) (held b (half + t))
          ≡ rows (l + 1) (k - (l + 1)) (first * (2 * half) + (b * (2 * half) + t))
      near_held b t q =
          ap (λ h. near_of l m (first + b) t (held b t) (held b (h + t))) is ∙ sym (formula.near_row l m (first + b) t (omega arith) (omega (arith, is)))
          ∙ sym (ap (rows (l + 1) (k - (l + 1))) (place b t) ∙ ap₂ (λ a c. rows a c ((first + b) * (2 * half_of l m) + t)) (add-one l) (omega arith))

      far_held : (b t : ℕ) → t < half
          → far_of l m (first + b) t (held b t) (held b (half + t))
          ≡ rows (l + 1) (k - (l + 1)) (first * (2 * half) + (b * (2 * half) + (half + t)))
      far_held b t q =
          ap (λ h. far_of l m (first + b) t (held b t) (held b (h + t))) is ∙ sym (formula.far_row l m (first + b) t (omega arith) (omega (arith, is)))
          ∙ sym (ap (rows (l + 1) (k - (l + 1))) (place b (half + t)) ∙ ap₂
          (λ a c. rows a c ((first + b) * (2 * half_of l m) + (half + t))) (add-one l) (omega arith)
          ∙ ap (λ h. rows (suc l) m ((first + b) * (2 * half_of l m) + (h + t))) is)

  -- the same on all rows
  pub whole_layer_taken : (k l w half blocks : ℕ) (near far : ℕ → ℕ → A → A → A) (x y : ℕ → A) → k ≤ bits → l < k
      → half ≡ half_of l (k - 1 - l) → blocks * (2 * half) ≡ 2 ^ k
      → ((b t : ℕ) → b < blocks → t < half → near b t ≡ near_of l (k - 1 - l) b t)
      → ((b t : ℕ) → b < blocks → t < half → far b t ≡ far_of l (k - 1 - l) b t)
      → IsLayer blocks (half * w) (λ b i. near b (i / w)) (λ b i. far b (i / w)) x y
      → (j : ℕ) → j < w → ((r : ℕ) → r < 2 ^ k → x (r * w + j) ≡ rows l (k - l) r)
      → (r : ℕ) → r < 2 ^ k → y (r * w + j) ≡ rows (l + 1) (k - (l + 1)) r
  whole_layer_taken k l w half blocks near far x y within below is whole same_near same_far layer j inside start r small =
      let zero : (b : ℕ) → b ≡ 0 + b = λ b. omega arith in
      layer_taken k l w half 0 blocks near far x y within below is
      (λ b t p q. subst (λ (c : ℕ). near c t ≡ near_of l (k - 1 - l) c t) (zero b) (same_near b t p q))
      (λ b t p q. subst (λ (c : ℕ). far c t ≡ far_of l (k - 1 - l) c t) (zero b) (same_far b t p q))
      (λ b p. subst (λ (c : ℕ). MeetHalves (half * w) (λ i. near c (i / w)) (λ i. far c (i / w))
      (λ n. x (b * (2 * (half * w)) + n)) (λ n. y (b * (2 * (half * w)) + n))) (zero b) (layer b p)) j inside
      (λ u p. start u (omega (arith, p, whole)) ∙ ap (rows l (k - l)) (omega arith)) r (omega (arith, small, whole))
      ∙ ap (rows (l + 1) (k - (l + 1))) (omega arith)
