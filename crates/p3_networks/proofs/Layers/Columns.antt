-- Columns of rows that lie one after another: cells that meet from one place of a row up to another, while the others stay.
use Rattle.p3_networks.proofs.Names.{◌≡◌, ◌⊎◌, ℕ, ◌+◌, ◌*◌, ◌-◌, ◌/◌, ◌%◌, ◌<◌, ◌≤◌, List, get_or, sym, ap, ap₂, ◌∙◌, subst, arith, ⊎_elim, cases_lt}
use Rattle.p3_networks.proofs.Names.{div-add-mod', div_below, mod_below, chunk_of, HoldsColumns, MeetInColumns, TakesColumns, IsLayer}
use Rattle.p3_networks.proofs.Layers.Blocks.{halves_are, row_below}
use Rattle.p3_networks.proofs.Rows.EachChunk.{chunk_at}

-- y stands in column j of a row: between two columns what is meant, else what was there
pub record InColumns {A T : Type 0} (value : T → A) (at end : ℕ) (is : A) (was : T) (j : ℕ) (y : T) : Type 0 where
  pub inside : at ≤ j → j < end → value y ≡ is
  pub outside : (j < at) ⊎ (end ≤ j) → y ≡ was

module _ {A T : Type 0} (value : T → A) (d : T) (part half at end : ℕ) where
  -- one block: the columns that met hold the cells behind the layer, and the others stay; x are the cells before
  pub block_columns : (near far : ℕ → A → A → A) (all c : ℕ) (before after : ℕ → A) (x : ℕ → T) (old new : List T)
      → IsLayer all (half * part) (λ b i. near b) (λ b i. far b) before after → c < all
      → ((i : ℕ) → i < 2 * (half * part) → get_or old i d ≡ x i)
      → ((u j : ℕ) → u < 2 * half → j < part → at ≤ j → j < end → value (x (u * part + j)) ≡ before (c * (2 * (half * part)) + (u * part + j)))
      → MeetInColumns value d part half at end (near c) (far c) old new
      → (u j : ℕ) → u < 2 * half → j
      < part
      → InColumns value at end (after (c * (2 * (half * part)) + (u * part + j))) (x (u * part + j)) j
      (get_or new (u * part + j) d)
  block_columns near far all c before after x old new layer among same x_is met u j below column =
      ⊎_elim
      (λ first.
      let inside : u * part + j < half * part = row_below u j part half first column in
      record {
        inside =
            λ p q. met.near_half u j first column p q ∙ ap₂ (near c) (low_cell u first p q) (high_cell u first p q)
            ∙ sym ((layer c among).near_cell (u * part + j) inside);
        outside = λ o. (met.kept u j first column o).0 ∙ same (u * part + j) (omega (arith, inside));
      })
      (λ second.
      let t = u - half in
      let less : t < half = omega (arith, second, below) in
      let is : half + t ≡ u = omega (arith, second) in
      let inside : t * part + j < half * part = row_below t j part half less column in
      let place : half * part + (t * part + j) ≡ u * part + j =
      (let spread : half * part + (t * part + j) ≡ (half + t) * part + j = omega arith in spread)
      ∙ ap (λ n. n * part + j) is in
      subst (λ (n : ℕ). InColumns value at end (after (c * (2 * (half * part)) + n)) (x n) j (get_or new n d)) place
      (record {
        inside =
            λ p q. met.far_half t j less column p q ∙ ap₂ (far c) (low_cell t less p q) (high_cell t less p q)
            ∙ sym ((layer c among).far_cell (t * part + j) inside);
        outside = λ o. (met.kept t j less column o).1 ∙ same (half * part + (t * part + j)) (omega (arith, inside));
      }))
      (cases_lt u half)
    where
      low_cell : (t : ℕ) → t < half → at ≤ j → j < end → value (get_or old (t * part + j) d) ≡ before (c * (2 * (half * part)) + (t * part + j))
      low_cell t less p q = ap value (same (t * part + j) (omega (arith, row_below t j part half less column))) ∙ x_is t j (omega (arith, less)) column p q

      high_cell : (t : ℕ) → t < half → at ≤ j → j < end
          → value (get_or old (half * part + (t * part + j)) d)
          ≡ before (c * (2 * (half * part)) + (half * part + (t * part + j)))
      high_cell t less p q =
          let place : half * part + (t * part + j) ≡ (half + t) * part + j = omega arith in
          ap value (same (half * part + (t * part + j)) (omega (arith, row_below t j part half less column)))
          ∙ ap (λ n. value (x n)) place ∙ x_is (half + t) j (omega (arith, less)) column p q
          ∙ ap (λ n. before (c * (2 * (half * part)) + n)) (sym place)

  -- all blocks, from number `first` on
  pub blocks_of_columns : (near far : ℕ → A → A → A) (all first blocks : ℕ) (before after : ℕ → A) (old new : List T)
      → IsLayer all (half * part) (λ b i. near b) (λ b i. far b) before after → first + blocks ≤ all
      → HoldsColumns value d part (blocks * (2 * half)) (first * (2 * (half * part))) at end before old
      → ((b : ℕ) → b < blocks
      → MeetInColumns value d part half at end (near (first + b)) (far (first + b))
      (chunk_of (2 * (half * part)) b old) (chunk_of (2 * (half * part)) b new))
      → TakesColumns value d part (blocks * (2 * half)) (first * (2 * (half * part))) at end after old new
  blocks_of_columns near far all first blocks before after old new layer within holds met = record {
    taken =
        λ r j row column p q. ap (λ n. value (get_or new n d)) (place r j) ∙ (done r j row column).inside p q
        ∙ ap after (sym (flat (r / (2 * half)) (r % (2 * half)) j)
        ∙ ap (λ n. first * (2 * (half * part)) + n) (sym (place r j)));
    kept = λ r j row column o. ap (λ n. get_or new n d) (place r j) ∙ (done r j row column).outside o ∙ ap (λ n. get_or old n d) (sym (place r j));
  }
    where
      place : (r j : ℕ) → r * part + j ≡ r / (2 * half) * (2 * (half * part)) + (r % (2 * half) * part + j)
      place r j =
          let spread : (r / (2 * half) * (2 * half) + r % (2 * half)) * part + j
          ≡ r / (2 * half) * (2 * (half * part)) + (r % (2 * half) * part + j) =
          omega arith in
          ap (λ n. n * part + j) (sym (div-add-mod' r (2 * half))) ∙ spread

      flat : (b u j : ℕ) → first * (2 * (half * part)) + (b * (2 * (half * part)) + (u * part + j)) ≡ (first + b) * (2 * (half * part)) + (u * part + j)
      flat b u j = omega arith

      held : (b u j : ℕ) → b < blocks → u < 2 * half → j < part → at ≤ j → j < end
          → value (get_or old (b * (2 * (half * part)) + (u * part + j)) d)
          ≡ before ((first + b) * (2 * (half * part)) + (u * part + j))
      held b u j among row column p q =
          let spread : b * (2 * (half * part)) + (u * part + j) ≡ (b * (2 * half) + u) * part + j = omega arith in
          ap (λ n. value (get_or old n d)) spread
          ∙ holds (b * (2 * half) + u) j (row_below b u (2 * half) blocks among row) column p q
          ∙ ap before (ap (λ n. first * (2 * (half * part)) + n) (sym spread) ∙ flat b u j)

      done : (r j : ℕ) → r < blocks * (2 * half) → j < part
          → InColumns value at end
          (after ((first + r / (2 * half)) * (2 * (half * part)) + (r % (2 * half) * part + j)))
          (get_or old (r / (2 * half) * (2 * (half * part)) + (r % (2 * half) * part + j)) d) j
          (get_or new (r / (2 * half) * (2 * (half * part)) + (r % (2 * half) * part + j)) d)
      done r j row column =
          let b = r / (2 * half) in
          let u = r % (2 * half) in
          let some : 0 < 2 * half = halves_are r blocks half row in
          let among : b < blocks = div_below r (2 * half) blocks some row in
          let below : u < 2 * half = mod_below r (2 * half) some in
          let wide : 2 * half * part ≡ 2 * (half * part) = omega arith in
          let inside : u * part + j < 2 * (half * part) = omega (arith, row_below u j part (2 * half) below column, wide) in
          subst (λ (y : T). InColumns value at end (after ((first + b) * (2 * (half * part)) + (u * part + j)))
          (get_or old (b * (2 * (half * part)) + (u * part + j)) d) j y)
          (chunk_at d (2 * (half * part)) b (u * part + j) new inside)
          (block_columns near far all (first + b) before after (λ i. get_or old (b * (2 * (half * part)) + i) d)
          (chunk_of (2 * (half * part)) b old) (chunk_of (2 * (half * part)) b new) layer
          (omega (arith, within, among))
          (λ i l. chunk_at d (2 * (half * part)) b i old l) (λ v k. held b v k among) (met b among) u j below column)
