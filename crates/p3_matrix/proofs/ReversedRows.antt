-- Stored matrices whose rows lie in bit reversed order: as lists of entries and by index.
use Rattle.p3_matrix.proofs.Names.{◌≡◌, ℕ, zero, suc, ◌+◌, ◌*◌, ◌<◌, ◌≤◌, ◌^◌, ◌/◌, ◌%◌, ◌++◌, List, length, get_or, slice_range, sym, ap, ap₂, ◌∙◌, refl}
use Rattle.p3_matrix.proofs.Names.{arith, rules, flat_map, range_with_len, places, same_lists, get_or-append-add, div-add-mod', div_below, mod_below, rev}
use Rattle.p3_matrix.proofs.Names.{bit_reversal, reversed_rows, matrix, Same, RowMajor, HasShapeOf, IsRowMajor, height, row}
use Rattle.p3_matrix.proofs.BitReversal.{rev-lt, reversed_back}
use Rattle.p3_matrix.proofs.RowMajor.{row_within}
use Rattle.p3_matrix.proofs.TwoPowers.{log_same}

module _ {T : Type 0} (f : ℕ → List T) (w : ℕ) where
  -- n lists of w elements each, joined
  joined_length : (a n : ℕ) → ((i : ℕ) → i < n → length (f (a + i)) ≡ w) → length (flat_map f (range_with_len a n)) ≡ n * w
  joined_length a zero each = omega arith
  joined_length a (suc n) each =
      let first : length (f a) ≡ w = ap (λ i. length (f i)) (omega arith) ∙ each 0 (omega arith) in
      let rest = joined_length (a + 1) n (λ i p. ap (λ k. length (f k)) (omega arith) ∙ each (suc i) (omega arith)) in
      search (rules, places)

  joined_entry : (a n i j : ℕ) (d : T) → ((i : ℕ) → i < n → length (f (a + i)) ≡ w) → i < n → j < w
      → get_or (flat_map f (range_with_len a n)) (i * w + j) d ≡ get_or (f (a + i)) j d
  joined_entry a zero i j d each below inside = absurd (omega (arith, below))
  joined_entry a (suc n) zero j d each below inside =
      let first : length (f a) ≡ w = ap (λ i. length (f i)) (omega arith) ∙ each 0 (omega arith) in
      let e : a + 0 ≡ a = omega arith in
      let at : get_or (f a ++ flat_map f (range_with_len (a + 1) n)) (0 * w + j) d ≡ get_or (f a) j d = search (rules, places) in
      at ∙ ap (λ k. get_or (f k) j d) (sym e)
  joined_entry a (suc n) (suc i) j d each below inside =
      let first : length (f a) ≡ w = ap (λ i. length (f i)) (omega arith) ∙ each 0 (omega arith) in
      let split : suc i * w + j ≡ length (f a) + (i * w + j) = omega (arith, first) in
      ap (λ k. get_or (f a ++ flat_map f (range_with_len (a + 1) n)) k d) split ∙ get_or-append-add (f a) (flat_map f (range_with_len (a + 1) n)) (i * w + j) d
      ∙ joined_entry (a + 1) n i j d (λ i p. ap (λ k. length (f k)) (omega arith) ∙ each (suc i) (omega arith)) (omega arith) inside
      ∙ ap (λ k. get_or (f k) j d) (omega arith)

-- a part of a list: its length, and its entries
part_length : {T : Type 0} (xs : List T) (a w : ℕ) → a + w ≤ length xs → length (slice_range xs a (a + w)) ≡ w
part_length xs a w l = search (rules, places)

part_entry : {T : Type 0} (xs : List T) (a w k : ℕ) (d : T) → a + w ≤ length xs → k < w → get_or (slice_range xs a (a + w)) k d ≡ get_or xs (a + k) d
part_entry xs a w k d l p = search (rules, places)

module _ {T : Type 0} (n : ℕ) (m : RowMajor T) (whole : IsRowMajor m) (high : height m ≡ 2 ^ n) where
  row_length : (i : ℕ) → i < 2 ^ n → length (row m (rev n (0 + i))) ≡ m.width
  row_length i p =
      let room = row_within (rev n (0 + i)) (height m) m.width (length m.values) (omega (arith, rev-lt n (0 + i), high)) whole.full in
      search (rules, places)

  pub reversed_length : length (reversed_rows n m).values ≡ length m.values
  reversed_length = joined_length (λ i. row m (rev n i)) m.width 0 (2 ^ n) row_length ∙ ap (λ h. h * m.width) (sym high) ∙ whole.full

  pub reversed_entry : (i j : ℕ) (d : T) → i < 2 ^ n → j < m.width
      → get_or (reversed_rows n m).values (i * m.width + j) d ≡ get_or m.values (rev n i * m.width + j) d
  reversed_entry i j d p q =
      let room = row_within (rev n i) (height m) m.width (length m.values) (omega (arith, rev-lt n i, high)) whole.full in
      let at : get_or (row m (rev n i)) j d ≡ get_or m.values (rev n i * m.width + j) d = search (rules, places) in
      joined_entry (λ i. row m (rev n i)) m.width 0 (2 ^ n) i j d row_length p q ∙ ap (λ k. get_or (row m (rev n k)) j d) (omega arith) ∙ at

  -- row i is the physical row of the reversed number
  reversed_within : (i : ℕ) → i < 2 ^ n → i * m.width + m.width ≤ length (reversed_rows n m).values
  reversed_within i p = row_within i (height m) m.width (length (reversed_rows n m).values) (omega (arith, high)) (whole.full ∙ sym reversed_length)

  pub reversed_row_length : (i : ℕ) → i < 2 ^ n → length (row (reversed_rows n m) i) ≡ m.width
  reversed_row_length i p = part_length (reversed_rows n m).values (i * m.width) m.width (reversed_within i p)

  pub reversed_row : (i : ℕ) → i < 2 ^ n → row (reversed_rows n m) i ≡ row m (rev n i)
  reversed_row i p =
      let w = m.width in
      let far : rev n i * w + w ≤ length m.values = row_within (rev n i) (height m) w (length m.values) (omega (arith, rev-lt n i, high)) whole.full in
      same_lists (row (reversed_rows n m) i) (row m (rev n i)) (reversed_row_length i p ∙ sym (part_length m.values (rev n i * w) w far)) (λ k d l.
      let inside : k < w = omega (arith, l, reversed_row_length i p) in
      part_entry (reversed_rows n m).values (i * w) w k d (reversed_within i p) inside ∙ reversed_entry i k d p inside
      ∙ sym (part_entry m.values (rev n i * w) w k d far inside))

  -- by index
  pub reversed_same : (d : T) → Same (matrix d (reversed_rows n m)) (bit_reversal n (matrix d m))
  reversed_same d = record {
    height = ap (λ l. l / m.width) reversed_length;
    width = refl;
    alike = λ i j p q. reversed_entry i j d (omega (arith, p, ap (λ l. l / m.width) reversed_length, high)) q;
  }

  -- whatever has these rows
  pub reversed_is : (r : RowMajor T) → HasShapeOf r m → length r.values ≡ length m.values
      → ((d : T) → Same (matrix d r) (bit_reversal n (matrix d m))) → r ≡ reversed_rows n m
  reversed_is r shape size rows =
      ap₂ (λ w vs. record { width = w; values = vs }) shape.1
      (same_lists r.values (reversed_rows n m).values (size ∙ sym reversed_length) at)
    where
      at : (k : ℕ) (d : T) → k < length r.values → get_or r.values k d ≡ get_or (reversed_rows n m).values k d
      at k d l =
          let w = m.width in
          let all : length r.values ≡ 2 ^ n * w = size ∙ sym whole.full ∙ ap (λ h. h * w) high in
          let i = k / w in
          let j = k % w in
          let split : i * w + j ≡ k = div-add-mod' k w in
          let below : i < 2 ^ n = div_below k w (2 ^ n) (omega (arith, whole.width)) (omega (arith, l, all)) in
          let inside : j < w = mod_below k w (omega (arith, whole.width)) in
          let tall : height r ≡ 2 ^ n = (rows d).height ∙ high in
          ap (λ p. get_or r.values p d) (sym split ∙ ap (λ v. i * v + j) (sym shape.1))
          ∙ (rows d).alike i j (omega (arith, below, tall)) (omega (arith, inside, shape.1))
          ∙ sym (reversed_entry i j d below inside) ∙ ap (λ p. get_or (reversed_rows n m).values p d) split

-- and the other way round: rows that were reversed, in bit reversed order
pub reversed_from : {T : Type 0} (n : ℕ) (m r : RowMajor T) → IsRowMajor m → height m ≡ 2 ^ n → HasShapeOf r m
    → length r.values ≡ length m.values → ((d : T) → Same (matrix d r) (bit_reversal n (matrix d m)))
    → m ≡ reversed_rows n r
reversed_from n m r whole high shape size rows =
    let full : height r * r.width ≡ length r.values = ap₂ (λ h w. h * w) shape.0 shape.1 ∙ whole.full ∙ sym size in
    reversed_is n r (record { width = omega (arith, whole.width, shape.1); full = full }) (shape.0 ∙ high) m (sym shape.0, sym shape.1) (sym size)
    (λ d. reversed_back n (matrix d r) (matrix d m) high (rows d))

-- of equal matrices of 2 ^ i and 2 ^ j rows the rows in bit reversed order are equal
pub reversed_alike : {T : Type 0} (i j : ℕ) {m n : RowMajor T} → m ≡ n → height m ≡ 2 ^ i → height n ≡ 2 ^ j → reversed_rows i m ≡ reversed_rows j n
reversed_alike i j is high tall = ap₂ (λ k x. reversed_rows k x) (log_same i j (sym high ∙ ap (λ x. height x) is ∙ tall)) is
