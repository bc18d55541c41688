-- A chunk whose halves go through their layers by themselves, and the layer that joins them, by decimation in frequency, with a scale.
use Rattle.p3_networks.proofs.Names.{◌≡◌, ℕ, ◌+◌, ◌*◌, ◌-◌, ◌/◌, ◌++◌, ◌<◌, ◌≤◌, ◌^◌, List, length, get_or, take, drop, sym, ap, ap₂, ◌∙◌, refl, [], ◌∷◌, subst}
use Rattle.p3_networks.proofs.Names.{arith, rules, length-append, ⊎_elim, cases_lt, places, pow_pos, mul-le-mul_left, Ring, solve, va, vb, vc, vd, ◌⊞◌, ◌⊟◌}
use Rattle.p3_networks.proofs.Names.{◌⊠◌, dif_far, dif_near, AreLayers, HoldsCells}
use Rattle.p3_networks.proofs.Layers.Chunks.{blocks_within, chunk_within}
use Rattle.p3_networks.proofs.Layers.Counts.{two_halves}
use Rattle.p3_networks.proofs.Layers.Halves.{in_first, in_second}

-- the halves of chunk `number` of 2 ^ r rows of w cells, as a program has them
pub record HalfSizes (r w number len : ℕ) : Type 0 where
  pub half_is : len / 2 ≡ 2 ^ (r - 1) * w
  pub whole : len ≡ 2 * (2 ^ (r - 1) * w)
  pub rows : (number + 1) * 2 ^ r ≡ 2 * number * 2 ^ (r - 1) + 2 * 2 ^ (r - 1)
  pub more : 2 * number + 2 ≤ (number + 1) * 2 ^ r

pub half_sizes : (r w number len : ℕ) → 1 ≤ r → len ≡ 2 ^ r * w → HalfSizes r w number len
half_sizes r w number len some size =
    let p = 2 ^ (r - 1) in
    let twice : 2 ^ r ≡ 2 * p = two_halves r (λ e. absurd (omega (arith, e, some))) in
    let whole : len ≡ 2 * (p * w) = size ∙ ap (λ n. n * w) twice ∙ omega arith in
    let rows : (number + 1) * 2 ^ r ≡ 2 * number * p + 2 * p = ap (λ n. (number + 1) * n) twice ∙ omega arith in
    let least : 2 * number * 1 ≤ 2 * number * p = mul-le-mul_left (2 * number) (pow_pos (r - 1)) in
    record { half_is = omega (arith, whole); whole = whole; rows = rows; more = omega (arith, rows, least, pow_pos (r - 1)) }

module _ {T A : Type 0} (value : T → A) (d : T) where
  -- the halves of what holds cells hold them
  pub low_held : (cells : ℕ → A) (whole low : List T) (number h : ℕ) → low ≡ take h whole → length low ≡ h → length whole ≡ 2 * h
      → HoldsCells value d (number * length whole) cells whole → HoldsCells value d (2 * number * length low) cells low
  low_held cells whole low number h is long all holds i inside =
      let at : get_or (take h whole) i d ≡ get_or whole i d = let below : i < h = omega (arith, inside, long) in search (rules, places) in
      let swap : number * (2 * h) ≡ 2 * number * h = omega arith in
      ap (λ xs. value (get_or xs i d)) is ∙ ap value at ∙ holds i (omega (arith, inside, long, all))
      ∙ ap (λ n. cells (n + i)) (ap (λ n. number * n) all ∙ swap ∙ ap (λ n. 2 * number * n) (sym long))

  pub high_held : (cells : ℕ → A) (whole high : List T) (number h : ℕ) → high ≡ drop h whole → length high ≡ h → length whole ≡ 2 * h
      → HoldsCells value d (number * length whole) cells whole → HoldsCells value d ((2 * number + 1) * length high) cells high
  high_held cells whole high number h is long all holds i inside =
      let at : get_or (drop h whole) i d ≡ get_or whole (h + i) d = search (rules, places) in
      let swap : number * (2 * h) + (h + i) ≡ (2 * number + 1) * h + i = omega arith in
      ap (λ xs. value (get_or xs i d)) is ∙ ap value at ∙ holds (h + i) (omega (arith, inside, long, all))
      ∙ ap (λ n. cells (number * n + (h + i))) all ∙ ap cells swap ∙ ap (λ n. cells ((2 * number + 1) * n + i)) (sym long)

  -- and where both halves hold cells, so do they together
  both_held : (cells : ℕ → A) (first second : List T) (start h : ℕ) → length first ≡ h → length second ≡ h
      → ((j : ℕ) → j < h → value (get_or first j d) ≡ cells (start + j)) → ((j : ℕ) → j < h → value (get_or second j d) ≡ cells (start + (h + j)))
      → HoldsCells value d start cells (first ++ second)
  both_held cells first second start h long also near far i inside =
      ⊎_elim
      (λ below. ap value (in_first first second i d (omega (arith, below, long))) ∙ near i below)
      (λ beyond.
      let place : h + (i - h) ≡ i = omega (arith, beyond) in
      subst (λ (n : ℕ). value (get_or (first ++ second) n d) ≡ cells (start + n)) place
      (ap value (in_second first second h (i - h) d long) ∙ far (i - h) (omega (arith, inside, beyond, length-append first second, long, also))))
      (cases_lt i h)

module _ {T A : Type 0} (R : Ring A) (value : T → A) (d : T) (entry : ℕ → A) (s : A) where
  -- the last layer of chunk `number`, with a scale
  pub joined_held : (k w r number : ℕ) (cells : ℕ → ℕ → A) (low high first second : List T) → 1 ≤ r
      → AreLayers k w (λ b. dif_near R (entry b)) (λ b. dif_far R (entry b)) cells (λ e. cells (e + 1)) → (number + 1) * 2 ^ r ≤ 2 ^ k
      → length low ≡ 2 ^ (r - 1) * w → length high ≡ 2 ^ (r - 1) * w → length first ≡ 2 ^ (r - 1) * w → length second ≡ 2 ^ (r - 1) * w
      → HoldsCells value d (2 * number * length low) (cells (r - 1)) low → HoldsCells value d ((2 * number + 1) * length high) (cells (r - 1)) high
      → ((j : ℕ) → j < length low → value (get_or first j d) ≡ R.mul (dif_near R (entry number) (value (get_or low j d)) (value (get_or high j d))) s)
      → ((j : ℕ) → j < length low → value (get_or second j d) ≡ R.mul (dif_far R (entry number) (value (get_or low j d)) (value (get_or high j d))) s)
      → HoldsCells value d (number * (2 * (2 ^ (r - 1) * w))) (λ i. R.mul (cells r i) s) (first ++ second)
  joined_held k w r number cells low high first second some layers room long also long_first long_second low_holds high_holds near far =
      let e = r - 1 in
      let h = 2 ^ e * w in
      let less : e < r = omega (arith, some) in
      let next : e + 1 ≡ r = omega (arith, some) in
      let within : e < k = omega (arith, less, chunk_within k r number room) in
      let none : r - 1 - e ≡ 0 = omega arith in
      let block : number < 2 ^ (k - 1 - e) =
      let all : number * 2 ^ (r - 1 - e) + 2 ^ (r - 1 - e) ≤ 2 ^ (k - 1 - e) = blocks_within k r e number less room in
      let one : number * 2 ^ (r - 1 - e) + 2 ^ (r - 1 - e) ≡ number * 1 + 1 = ap (λ n. number * 2 ^ n + 2 ^ n) none in
      omega (arith, all, one) in
      let low_at = λ (j : ℕ) (inside : j < h).
      let place : 2 * number * h + j ≡ number * (2 * h) + j = omega arith in
      low_holds j (omega (arith, inside, long)) ∙ ap (λ n. cells e (2 * number * n + j)) long ∙ ap (cells e) place in
      let high_at = λ (j : ℕ) (inside : j < h).
      let place : (2 * number + 1) * h + j ≡ number * (2 * h) + (h + j) = omega arith in
      high_holds j (omega (arith, inside, also)) ∙ ap (λ n. cells e ((2 * number + 1) * n + j)) also ∙ ap (cells e) place in
      both_held value d (λ i. R.mul (cells r i) s) first second (number * (2 * h)) h long_first long_second
      (λ j inside. near j (omega (arith, inside, long))
      ∙ ap (λ y. R.mul y s) (ap₂ (dif_near R (entry number)) (low_at j inside) (high_at j inside) ∙ sym (layers.near_cell e number j within block inside)
      ∙ ap (λ a. cells a (number * (2 * h) + j)) next))
      (λ j inside. far j (omega (arith, inside, long))
      ∙ ap (λ y. R.mul y s) (ap₂ (dif_far R (entry number)) (low_at j inside) (high_at j inside) ∙ sym (layers.far_cell e number j within block inside)
      ∙ ap (λ a. cells a (number * (2 * h) + (h + j))) next))

-- layers by decimation in frequency lead the multiples of cells to those of the others
pub scaled_layers : {A : Type 0} (R : Ring A) (entry : ℕ → A) (s : A) (k w : ℕ) (cells : ℕ → ℕ → A)
    → AreLayers k w (λ b. dif_near R (entry b)) (λ b. dif_far R (entry b)) cells (λ e. cells (e + 1))
    → AreLayers k w (λ b. dif_near R (entry b)) (λ b. dif_far R (entry b)) (λ e i. R.mul (cells e i) s) (λ e i. R.mul (cells (e + 1) i) s)
scaled_layers R entry s k w cells layers = record {
  near_cell = λ e b i below block inside.
      ap (λ y. R.mul y s) (layers.near_cell e b i below block inside)
      ∙ solve R (s ∷ cells e (b * (2 * (2 ^ e * w)) + i) ∷ cells e (b * (2 * (2 ^ e * w)) + (2 ^ e * w + i)) ∷ []) ((vb ⊞ vc) ⊠ va) (vb ⊠ va ⊞ vc ⊠ va) refl;
  far_cell = λ e b i below block inside.
      ap (λ y. R.mul y s) (layers.far_cell e b i below block inside)
      ∙ solve R
      (s ∷ cells e (b * (2 * (2 ^ e * w)) + i) ∷ cells e (b * (2 * (2 ^ e * w)) + (2 ^ e * w + i)) ∷ entry b ∷ [])
      ((vb ⊟ vc) ⊠ vd ⊠ va) ((vb ⊠ va ⊟ vc ⊠ va) ⊠ vd) refl;
}

-- the products of both halves and of the layer that joins them
pub joined_counted : (m h before low high after : ℕ) → 2 * low ≤ 2 * before + 1 * (m * h)
    → 2 * high ≤ 2 * low + 1 * (m * h) → after ≡ high + 2 * h → 2 * after ≤ 2 * before + (m + 1 + 2) * (2 * h)
joined_counted m h before low high after first second last =
    let spread : (m + 1 + 2) * (2 * h) ≡ 2 * (m * h) + 6 * h = omega arith in
    omega (arith, first, second, last, spread)
