-- The cells of a network whose rows hold a formula: layers that follow one another, taken in the order in which the cells lie.
use Rattle.p3_networks.proofs.Names.{◌≡◌, ℕ, suc, ◌+◌, ◌*◌, ◌-◌, ◌/◌, ◌%◌, ◌<◌, ◌≤◌, ◌^◌, refl, sym, ap, ap₂, ◌∙◌, subst, arith, add-one, div-add-mod'}
use Rattle.p3_networks.proofs.Names.{div_below, div-mul-add, mod-mul-add, mod_below, Ring, power, AreRoots, power-mul, power_of_one, rev, dif_far, dif_near}
use Rattle.p3_networks.proofs.Names.{dit_far, dit_near, AreLayers, poly, point_of_one}
use Rattle.p3_networks.proofs.Networks.Formulas.{Formula}
use Rattle.p3_networks.proofs.Networks.HighRows.{high_row, high_rows, high_start, high_end}
use Rattle.p3_networks.proofs.Networks.Stages.{twiddle, twiddle_of_one}
use Rattle.p3_networks.proofs.Networks.TwistedRows.{twisted_row, twisted_row_of_zeros, twisted_rows, twisted_row_start, twisted_row_end}
use Rattle.p3_field.proofs.Rings

together : {A : Type 0} (f : A → A → A → A) {x y p q u v : A} → x ≡ y → p ≡ u → q ≡ v → f x p q ≡ f y u v
together f {y = y} {p = p} {q = q} e c d = ap (λ z. f z p q) e ∙ ap₂ (f y) c d

module _ {A : Type 0} {bits : ℕ} {half_of : ℕ → ℕ → ℕ} {near_of far_of : ℕ → ℕ → ℕ → ℕ → A → A → A} (rows : ℕ → ℕ → ℕ → ℕ → A)
    (formula : (j : ℕ) → Formula bits half_of near_of far_of (rows j)) (w : ℕ) where
  -- cell n of rows of w cells, when l layers are done and m are left: row n / w of column n % w
  abbrev pub cell : ℕ → ℕ → ℕ → A
  cell l m n = rows (n % w) l m (n / w)

  at_row : (l m r j : ℕ) → j < w → cell l m (r * w + j) ≡ rows j l m r
  at_row l m r j inside = ap₂ (λ a b. rows a l m b) (mod-mul-add r w j inside) (div-mul-add r w j inside)

  low_at : (b half t j : ℕ) → b * (2 * (half * w)) + (t * w + j) ≡ (b * (2 * half) + t) * w + j
  low_at b half t j = omega arith

  high_at : (b half t j : ℕ) → b * (2 * (half * w)) + (half * w + (t * w + j)) ≡ (b * (2 * half) + (half + t)) * w + j
  high_at b half t j = omega arith

  pub near_cells : (l m b i half : ℕ) → 0 < w → suc l + m ≤ bits → half ≡ half_of l m → i < half * w
      → cell (suc l) m (b * (2 * (half * w)) + i)
      ≡ near_of l m b (i / w) (cell l (suc m) (b * (2 * (half * w)) + i))
      (cell l (suc m) (b * (2 * (half * w)) + (half * w + i)))
  near_cells l m b i half wide within is inside =
      let t = i / w in
      let j = i % w in
      let column : j < w = mod_below i w wide in
      let row : t < half = div_below i w half wide inside in
      subst (λ (n : ℕ). cell (suc l) m (b * (2 * (half * w)) + n)
      ≡ near_of l m b t (cell l (suc m) (b * (2 * (half * w)) + n))
      (cell l (suc m) (b * (2 * (half * w)) + (half * w + n)))) (div-add-mod' i w)
      (ap (cell (suc l) m) (low_at b half t j) ∙ at_row (suc l) m (b * (2 * half) + t) j column
      ∙ subst (λ (h : ℕ). rows j (suc l) m (b * (2 * h) + t)
      ≡ near_of l m b t (rows j l (suc m) (b * (2 * h) + t)) (rows j l (suc m) (b * (2 * h) + (h + t)))) (sym is)
      ((formula j).near_row l m b t within (subst (λ (h : ℕ). t < h) is row))
      ∙ sym (ap₂ (near_of l m b t) (ap (cell l (suc m)) (low_at b half t j) ∙ at_row l (suc m) (b * (2 * half) + t) j column)
      (ap (cell l (suc m)) (high_at b half t j) ∙ at_row l (suc m) (b * (2 * half) + (half + t)) j column)))

  pub far_cells : (l m b i half : ℕ) → 0 < w → suc l + m ≤ bits → half ≡ half_of l m → i < half * w
      → cell (suc l) m (b * (2 * (half * w)) + (half * w + i))
      ≡ far_of l m b (i / w) (cell l (suc m) (b * (2 * (half * w)) + i))
      (cell l (suc m) (b * (2 * (half * w)) + (half * w + i)))
  far_cells l m b i half wide within is inside =
      let t = i / w in
      let j = i % w in
      let column : j < w = mod_below i w wide in
      let row : t < half = div_below i w half wide inside in
      subst (λ (n : ℕ). cell (suc l) m (b * (2 * (half * w)) + (half * w + n))
      ≡ far_of l m b t (cell l (suc m) (b * (2 * (half * w)) + n))
      (cell l (suc m) (b * (2 * (half * w)) + (half * w + n)))) (div-add-mod' i w)
      (ap (cell (suc l) m) (high_at b half t j) ∙ at_row (suc l) m (b * (2 * half) + (half + t)) j column
      ∙ subst (λ (h : ℕ). rows j (suc l) m (b * (2 * h) + (h + t))
      ≡ far_of l m b t (rows j l (suc m) (b * (2 * h) + t)) (rows j l (suc m) (b * (2 * h) + (h + t)))) (sym is)
      ((formula j).far_row l m b t within (subst (λ (h : ℕ). t < h) is row))
      ∙ sym (ap₂ (far_of l m b t) (ap (cell l (suc m)) (low_at b half t j) ∙ at_row l (suc m) (b * (2 * half) + t) j column)
      (ap (cell l (suc m)) (high_at b half t j) ∙ at_row l (suc m) (b * (2 * half) + (half + t)) j column)))

module _ {A : Type 0} (R : Ring A) {g : ℕ → A} {bits : ℕ} (G : AreRoots R bits g) (k w : ℕ) (c : ℕ → ℕ → A) (entry : ℕ → A) where
  -- the cells of high rows where column j has the coefficients c j: layers count down
  abbrev pub high_cells : ℕ → ℕ → A
  high_cells e n = high_row R g R.one (k - e) e (c (n % w)) (n / w)

  pub high_layers : 0 < w → k ≤ bits → ((l b : ℕ) → l < k → b < 2 ^ l → entry b ≡ power R (g (l + 1)) (rev l b))
      → AreLayers k w (λ b. dit_near R (entry b)) (λ b. dit_far R (entry b)) (λ e. high_cells (e + 1)) high_cells
  high_layers wide within entries = record {
    near_cell = λ e b i below block inside.
        after e _ below ∙ near_cells rows formula w (k - 1 - e) e b i (2 ^ e) wide (omega (arith, below, within)) refl inside
        ∙ sym (together (dit_near R) (entry_is e b below block) (before e _ below) (before e _ below));
    far_cell = λ e b i below block inside.
        after e _ below ∙ far_cells rows formula w (k - 1 - e) e b i (2 ^ e) wide (omega (arith, below, within)) refl inside
        ∙ sym (together (dit_far R) (entry_is e b below block) (before e _ below) (before e _ below));
  }
    where
      rows : ℕ → ℕ → ℕ → ℕ → A
      rows j l m r = high_row R g R.one l m (c j) r

      formula : (j : ℕ)
          → Formula bits (λ l m. 2 ^ m) (λ l m b t. dit_near R (twiddle R g R.one l m (rev l b)))
          (λ l m b t. dit_far R (twiddle R g R.one l m (rev l b))) (rows j)
      formula j = high_rows R g R.one G (c j)

      after : (e n : ℕ) → e < k → high_cells e n ≡ cell rows formula w (suc (k - 1 - e)) e n
      after e n below = ap (λ a. high_row R g R.one a e (c (n % w)) (n / w)) (let is : k - e ≡ suc (k - 1 - e) = omega (arith, below) in is)

      before : (e n : ℕ) → e < k → high_cells (e + 1) n ≡ cell rows formula w (k - 1 - e) (suc e) n
      before e n below = ap₂ (λ a m. high_row R g R.one a m (c (n % w)) (n / w)) (let is : k - (e + 1) ≡ k - 1 - e = omega arith in is) (add-one e)

      entry_is : (e b : ℕ) → e < k → b < 2 ^ (k - 1 - e) → entry b ≡ twiddle R g R.one (k - 1 - e) e (rev (k - 1 - e) b)
      entry_is e b below block =
          entries (k - 1 - e) b (omega (arith, below)) block ∙ ap (λ n. power R (g n) (rev (k - 1 - e) b)) (add-one (k - 1 - e))
          ∙ sym (twiddle_of_one R g (k - 1 - e) e (rev (k - 1 - e) b))

  -- and those of twisted rows: layers count up
  abbrev pub twisted_cells : ℕ → ℕ → A
  twisted_cells e n = twisted_row R g R.one e (k - e) (c (n % w)) (n / w)

  pub twisted_layers : 0 < w → k ≤ bits → ((l b : ℕ) → l < k → b < 2 ^ l → entry b ≡ power R (g (l + 1)) (rev l b))
      → AreLayers k w (λ b. dif_near R (entry b)) (λ b. dif_far R (entry b)) twisted_cells (λ e. twisted_cells (e + 1))
  twisted_layers wide within entries = record {
    near_cell = λ e b i below block inside.
        after e _ ∙ near_cells rows formula w e (k - 1 - e) b i (2 ^ e) wide (omega (arith, below, within)) refl inside
        ∙ sym (together (dif_near R) (entry_is e b below block) (before e _ below) (before e _ below));
    far_cell = λ e b i below block inside.
        after e _ ∙ far_cells rows formula w e (k - 1 - e) b i (2 ^ e) wide (omega (arith, below, within)) refl inside
        ∙ sym (together (dif_far R) (entry_is e b below block) (before e _ below) (before e _ below));
  }
    where
      rows : ℕ → ℕ → ℕ → ℕ → A
      rows j l m r = twisted_row R g R.one l m (c j) r

      formula : (j : ℕ)
          → Formula bits (λ l m. 2 ^ l) (λ l m b t. dif_near R (power R (g (suc m)) (rev m b)))
          (λ l m b t. dif_far R (power R (g (suc m)) (rev m b))) (rows j)
      formula j = twisted_rows R g R.one G (c j)

      after : (e n : ℕ) → twisted_cells (e + 1) n ≡ cell rows formula w (suc e) (k - 1 - e) n
      after e n = ap₂ (λ a m. twisted_row R g R.one a m (c (n % w)) (n / w)) (add-one e) (let is : k - (e + 1) ≡ k - 1 - e = omega arith in is)

      before : (e n : ℕ) → e < k → twisted_cells e n ≡ cell rows formula w e (suc (k - 1 - e)) n
      before e n below = ap (λ m. twisted_row R g R.one e m (c (n % w)) (n / w)) (let is : k - e ≡ suc (k - 1 - e) = omega (arith, below) in is)

      entry_is : (e b : ℕ) → e < k → b < 2 ^ (k - 1 - e) → entry b ≡ power R (g (suc (k - 1 - e))) (rev (k - 1 - e) b)
      entry_is e b below block = entries (k - 1 - e) b (omega (arith, below)) block ∙ ap (λ n. power R (g n) (rev (k - 1 - e) b)) (add-one (k - 1 - e))

  -- before the first layer
  pub high_cells_start : 0 < w → (x : ℕ → A) → ((q j : ℕ) → c j q ≡ x (q * w + j)) → (i : ℕ) → i < 2 ^ k * w → x i ≡ high_cells k (0 + i)
  high_cells_start wide x are i inside =
      let none : k - k ≡ 0 = omega arith in
      let row : i / w < 2 ^ k = div_below i w (2 ^ k) wide inside in
      let plain : 0 + i ≡ i = omega arith in
      ap x (sym (div-add-mod' i w)) ∙ sym (are (i / w) (i % w)) ∙ sym (high_start R g R.one k (c (i % w)) (i / w) row)
      ∙ ap (λ a. high_row R g R.one a k (c (i % w)) (i / w)) (sym none) ∙ ap (high_cells k) (sym plain)

  -- and after the last
  pub high_cells_end : (r j : ℕ) → j < w → high_cells 0 (0 + (r * w + j)) ≡ poly R (2 ^ k) (c j) (power R (g k) (rev k r))
  high_cells_end r j inside =
      let plain : 0 + (r * w + j) ≡ r * w + j = omega arith in
      let all : k - 0 ≡ k = omega arith in
      ap (high_cells 0) plain ∙ ap₂ (λ a b. high_row R g R.one (k - 0) 0 (c a) b) (mod-mul-add r w j inside) (div-mul-add r w j inside)
      ∙ ap (λ l. high_row R g R.one l 0 (c j) r) all ∙ high_end R g R.one k (c j) r ∙ ap (poly R (2 ^ k) (c j)) (point_of_one R g k (rev k r))

  pub twisted_cells_start : 0 < w → (x : ℕ → A) → ((q j : ℕ) → q < 2 ^ k → c j (rev k q) ≡ x (q * w + j)) → (i : ℕ)
      → i < 2 ^ k * w → x i ≡ twisted_cells 0 (0 + i)
  twisted_cells_start wide x are i inside =
      let all : k - 0 ≡ k = omega arith in
      let plain : 0 + i ≡ i = omega arith in
      let q = i / w in
      let j = i % w in
      ap x (sym (div-add-mod' i w)) ∙ sym (are q j (div_below i w (2 ^ k) wide inside))
      ∙ sym (twisted_row_start R g R.one k (c j) q ∙ ap (λ y. R.mul y (c j (rev k q))) (power_of_one R (rev k q)) ∙ Rings.one-mul R (c j (rev k q)))
      ∙ ap (λ m. twisted_row R g R.one 0 m (c j) q) (sym all) ∙ ap (twisted_cells 0) (sym plain)

  pub twisted_cells_end : (r j : ℕ) → r < 2 ^ k → j < w → twisted_cells k (0 + (r * w + j)) ≡ poly R (2 ^ k) (c j) (power R (g k) r)
  twisted_cells_end r j below inside =
      let plain : 0 + (r * w + j) ≡ r * w + j = omega arith in
      let none : k - k ≡ 0 = omega arith in
      ap (twisted_cells k) plain ∙ ap₂ (λ a b. twisted_row R g R.one k (k - k) (c a) b) (mod-mul-add r w j inside) (div-mul-add r w j inside)
      ∙ ap (λ m. twisted_row R g R.one k m (c j) r) none ∙ twisted_row_end R g R.one k (c j) r below ∙ ap (poly R (2 ^ k) (c j)) (point_of_one R g k r)

  -- and those of a polynomial of 2 ^ (k - a) coefficients after the first a layers
  pub twisted_cells_of_zeros : (a : ℕ) → a ≤ k → ((j q : ℕ) → 2 ^ (k - a) ≤ q → c j q ≡ R.zero) → (q t j : ℕ) → t < 2 ^ a → j < w
      → twisted_cells a ((q * 2 ^ a + t) * w + j) ≡ R.mul (c j (rev (k - a) q)) (power R (power R (g k) (rev (k - a) q)) t)
  twisted_cells_of_zeros a within zeros q t j below inside =
      let m = k - a in
      let n = rev m q in
      let all : a + m ≡ k = omega (arith, within) in
      let swap : t * n ≡ n * t = omega arith in
      ap₂ (λ u b. twisted_row R g R.one a m (c u) b) (mod-mul-add (q * 2 ^ a + t) w j inside) (div-mul-add (q * 2 ^ a + t) w j inside)
      ∙ twisted_row_of_zeros R g R.one a m (c j) q t (zeros j) below
      ∙ ap (λ i. R.mul (power R (R.mul R.one (power R (g i) t)) n) (c j n)) all
      ∙ ap (λ x. R.mul (power R x n) (c j n)) (Rings.one-mul R (power R (g k) t))
      ∙ ap (λ x. R.mul x (c j n)) (sym (power-mul R (g k) t n) ∙ ap (power R (g k)) swap ∙ power-mul R (g k) n t)
      ∙ R.mul_comm (power R (power R (g k) n) t) (c j n)
