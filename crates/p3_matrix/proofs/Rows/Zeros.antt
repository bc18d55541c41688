-- Rows of zeros in a stored matrix, and where they begin.
use Rattle.p3_matrix.proofs.Names.{◌≡◌, ◌↔◌, ℕ, ◌+◌, ◌-◌, ◌*◌, ◌/◌, ◌%◌, ◌<◌, ◌≤◌, Bool, IsTrue, length, get_or, min, take, drop, sym, ap, ◌∙◌, arith, All}
use Rattle.p3_matrix.proofs.Names.{mul-le-mul_right, get_or_default, div-add-mod', div_below, le-div, mod_below, RowMajor, IsRowMajor, height, values_of}
use Rattle.p3_matrix.proofs.Rows.Overwritten.{part_at, part_size}
use Rattle.p3_field.specs.declared.fields.Valued.{Ghosts as FieldMembers}

module _ {F : Type 0} (f : FieldMembers F) (m : RowMajor F) (start : ℕ) (whole : IsRowMajor m) (inside : start ≤ height m) where
  -- the entries from row `start` on
  abbrev rest : ℕ
  rest = length m.values - start * m.width

  long : length (take rest (drop (start * m.width) m.values)) ≡ rest
  long = part_size m.values (start * m.width) rest (omega (arith, mul-le-mul_right m.width inside, whole.full))

  rows_of_entries : All (λ x. f.value x ≡ f.ring.zero) (take rest (drop (start * m.width) m.values))
      → (i j : ℕ) → start ≤ i → i < height m → j < m.width → (values_of f m).entry i j ≡ f.ring.zero
  rows_of_entries zeros i j behind below column =
      let from : start * m.width ≤ i * m.width = mul-le-mul_right m.width behind in
      let to : (i + 1) * m.width ≤ height m * m.width = mul-le-mul_right m.width (omega arith) in
      let n = i * m.width + j - start * m.width in
      let place : i * m.width + j ≡ start * m.width + n = omega (arith, from) in
      let here : n < rest = omega (arith, from, to, whole.full) in
      ap (λ p. f.value (get_or m.values p f.zero)) place ∙ ap f.value (sym (part_at m.values (start * m.width) rest n f.zero here))
      ∙ zeros n f.zero (omega (arith, here, long))

  entries_of_rows : ((i j : ℕ) → start ≤ i → i < height m → j < m.width → (values_of f m).entry i j ≡ f.ring.zero)
      → All (λ x. f.value x ≡ f.ring.zero) (take rest (drop (start * m.width) m.values))
  entries_of_rows zeros n d below =
      let w = m.width in
      let p = start * w + n in
      let here : n < rest = omega (arith, below, long) in
      let there : p < length m.values = omega (arith, here) in
      let some : 0 < w = omega (arith, whole.width) in
      ap f.value (part_at m.values (start * w) rest n d here ∙ get_or_default m.values p d f.zero there)
      ∙ ap (λ q. f.value (get_or m.values q f.zero)) (sym (div-add-mod' p w))
      ∙ zeros (p / w) (p % w) (le-div start p w some (omega arith)) (div_below p w (height m) some (omega (arith, there, whole.full))) (mod_below p w some)

  zeros_by_rows : (told : Bool) → (IsTrue told ↔ All (λ x. f.value x ≡ f.ring.zero) (take rest (drop (start * m.width) m.values)))
      → IsTrue told ↔ ((i j : ℕ) → start ≤ i → i < height m → j < m.width → (values_of f m).entry i j ≡ f.ring.zero)
  zeros_by_rows told exact = (λ t. rows_of_entries (exact.0 t), λ zeros. exact.1 (entries_of_rows zeros))

-- the rows from `bound` on are those from the smaller of it and the height on
pub zeros_from_bound : {F : Type 0} (f : FieldMembers F) (m : RowMajor F) (bound start : ℕ) → IsRowMajor m → start ≡ min bound (height m) → (told : Bool)
    → (IsTrue told ↔ All (λ x. f.value x ≡ f.ring.zero) (take (length m.values - start * m.width) (drop (start * m.width) m.values)))
    → IsTrue told ↔ ((i j : ℕ) → bound ≤ i → i < height m → j < m.width → (values_of f m).entry i j ≡ f.ring.zero)
zeros_from_bound f m bound start whole least told exact =
    let by = zeros_by_rows f m start whole (omega (arith, least)) told exact in (
      λ t i j behind below. by.0 t i j (omega (arith, least, behind)) below,
      λ zeros. by.1 (λ i j behind below. zeros i j (omega (arith, least, behind, below)) below),
    )
