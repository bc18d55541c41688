-- Entries that are multiplied by a first factor and the powers of a base: in two parts, by packs, and by columns.
use Rattle.p3_networks.proofs.Names.{◌≡◌, ℕ, ◌+◌, ◌*◌, ◌-◌, ◌/◌, ◌%◌, ◌<◌, ◌≤◌, List, ◌++◌, length, get_or, take, drop, map, sym, ap, ap₂, ◌∙◌, arith, subst}
use Rattle.p3_networks.proofs.Names.{⊎_elim, mod-lt, cases_lt, get_or_append_left, get_or-append-add, get_or-map, length-append, length-map, map-append}
use Rattle.p3_networks.proofs.Names.{take-append-drop, div-add-mod, lt_of_mul-lt-mul_right, Ring, power, power-add, power-mul, power_of_product}
use Rattle.p3_networks.proofs.Layers.Halves.{block_size}

module _ {A : Type 0} (R : Ring A) where
  -- factor n
  abbrev pub factor : A → A → ℕ → A
  factor first base n = R.mul first (power R base n)

  -- the factors behind the first n are those of the factor n
  pub factor-add : (first base : A) (n k : ℕ) → factor (factor first base n) base k ≡ factor first base (n + k)
  factor-add first base n k = R.mul_assoc first (power R base n) (power R base k) ∙ ap (R.mul first) (sym (power-add R base n k))

  -- w factors on
  pub factor-more : (first base : A) (i w k : ℕ) → R.mul (factor first base (i * w + k)) (power R base w) ≡ factor first base ((i + 1) * w + k)
  factor-more first base i w k =
      let on : i * w + k + w ≡ (i + 1) * w + k = omega arith in
      factor-add first base (i * w + k) w ∙ ap (factor first base) on

  -- the i-th power of the shift of column j, from powers of the shift and of the step
  pub power_of_column : (shift step : A) (i j : ℕ) → R.mul (power R shift i) (power R (power R step i) j) ≡ power R (R.mul shift (power R step j)) i
  power_of_column shift step i j =
      let turned : i * j ≡ j * i = omega arith in
      ap (R.mul (power R shift i)) (sym (power-mul R step i j) ∙ ap (power R step) turned ∙ power-mul R step j i)
      ∙ sym (power_of_product R shift (power R step j) i)

module _ {F A : Type 0} (R : Ring A) (v : F → A) (z : F) where
  -- each entry of xs is multiplied by its factor
  abbrev pub IsScaled : A → A → List F → List F → Type 0
  IsScaled first base xs ys = (i : ℕ) → i < length xs → v (get_or ys i z) ≡ R.mul (v (get_or xs i z)) (factor R first base i)

  -- in two parts
  pub scaled_in_parts : (first base next : A) (front back front' back' : List F) → length front' ≡ length front → next ≡ factor R first base (length front)
      → IsScaled first base front front' → IsScaled next base back back' → IsScaled first base (front ++ back) (front' ++ back')
  scaled_in_parts first base next front back front' back' long is first_part second_part i below =
      ⊎_elim
      (λ less.
      ap v (get_or_append_left front' back' z i (omega (arith, less, long))) ∙ first_part i less
      ∙ ap (λ (y : F). R.mul (v y) (factor R first base i)) (sym (get_or_append_left front back z i less)))
      (λ not_less.
      let n = length front in
      let j = i - n in
      let place : n + j ≡ i = omega (arith, not_less) in
      let behind : length front' + j ≡ i = omega (arith, long, place) in
      let inside : j < length back = omega (arith, place, below, length-append front back) in
      ap (λ (m : ℕ). v (get_or (front' ++ back') m z)) (sym behind) ∙ ap v (get_or-append-add front' back' j z)
      ∙ second_part j inside
      ∙ ap₂ R.mul (ap v (sym (get_or-append-add front back j z)) ∙ ap (λ (m : ℕ). v (get_or (front ++ back) m z)) place)
      (ap (λ (y : A). factor R y base j) is ∙ factor-add R first base n j ∙ ap (factor R first base) place))
      (cases_lt i (length front))

  -- pack after pack
  pub scaled_by_packs : (first base : A) (w n : ℕ) (xs ys : List F) → 1 ≤ w → length xs ≡ n * w
      → ((p k : ℕ) → p < n → k < w
      → v (get_or ys (p * w + k) z) ≡ R.mul (v (get_or xs (p * w + k) z)) (factor R first base (p * w + k))) →
      IsScaled first base xs ys
  scaled_by_packs first base w n xs ys wide long packs i below =
      let p = i / w in
      let k = i % w in
      let inside : k < w = mod-lt i (omega arith) in
      let turned : w * p ≡ p * w = omega arith in
      let place : p * w + k ≡ i = ap (λ m. m + k) (sym turned) ∙ div-add-mod i w in
      let within : p * w < n * w = omega (arith, place, below, long) in
      subst (λ (m : ℕ). v (get_or ys m z) ≡ R.mul (v (get_or xs m z)) (factor R first base m)) place (packs p k (lt_of_mul-lt-mul_right w within) inside)

module _ {F A : Type 0} (v : F → A) where
  -- entries of lists with the same values
  pub same_entries : (xs ys : List F) (k : ℕ) (d : F) → map v ys ≡ map v xs → k < length xs → v (get_or ys k d) ≡ v (get_or xs k d)
  same_entries xs ys k d same inside =
      let long : length ys ≡ length xs = sym (length-map ys v) ∙ ap length same ∙ length-map xs v in
      sym (get_or-map v ys k d (v d) (omega (arith, inside, long))) ∙ ap (λ zs. get_or zs k (v d)) same ∙ get_or-map v xs k d (v d) inside

  -- where a front was written over by the same values
  pub restored : (w : ℕ) (xs part : List F) → map v part ≡ map v (take w xs) → map v (part ++ drop w xs) ≡ map v xs
  restored w xs part same =
      map-append v part (drop w xs) ∙ ap (λ ys. ys ++ map v (drop w xs)) same
      ∙ sym (map-append v (take w xs) (drop w xs)) ∙ ap (map v) (take-append-drop w xs)

-- the packs are all of a list
pub whole_packs : (len k w width : ℕ) → 1 ≤ w → width ≡ w → len ≡ k * w → len ≡ len / width * width
whole_packs len k w width some is whole =
    let wide : 1 ≤ width = omega (arith, some, is) in
    let all : len ≡ k * width = whole ∙ ap (λ n. k * n) (sym is) in
    all ∙ ap (λ n. n * width) (sym (block_size len width k wide (all ∙ omega arith)))
