-- Slots of an extension as rows and cells of one list: their places, their blocks, and what is lent of them so far.
use Rattle.p3_networks.proofs.Names.{⊤, ◌≡◌, ℕ, suc, List, [], ◌∷◌, take, drop, ◌+◌, ◌*◌, ◌-◌, ◌%◌, ◌++◌, ◌<◌, ◌≤◌, ◌^◌, length, get_or, Result, refl, sym, ap}
use Rattle.p3_networks.proofs.Names.{◌∙◌, subst, arith, le_refl, lt_of_le_of_lt, mod-eq_of_lt, mul-le-mul_right, pow-lt, append-nil, append_assoc, drop_at}
use Rattle.p3_networks.proofs.Names.{take_at, get_or-map-range_with_len, length-map-range_with_len, map-range_with_len_more, pow-add, MatchResult-weaker}
use Rattle.p3_networks.proofs.Names.{AreRoots, rev, mid_of, AreBlocksOf, Run, RunToRefusal, Matrix, image, matrix, RowMajor, point, rev-lt, chunk_of}
use Rattle.p3_networks.proofs.Names.{HasRowsOnCoset, IsSlot, LentInBlocks, extended_rows, slot_block, slot_blocks, forward_root}
use Rattle.p3_networks.proofs.Networks.Slots.{of_front, other_rows, others_rows, slot_row}
use Rattle.p3_networks.proofs.Rows.Lent.{are_blocks, blocks_joined, blocks_kept, blocks_of_part, refusal_joined}
use Rattle.p3_field.specs.declared.fields.Valued.{Ghosts as FieldMembers}

-- the rows of the first slot have numbers
pub first_ends : (k a : ℕ) → k + a < 64 → 0 + 2 ^ k < 18446744073709551616
first_ends k a small = let fits : 2 ^ k < 2 ^ 64 = pow-lt (let l : k < 64 = omega (arith, small) in l) in omega (arith, fits)

-- a slot is whole blocks
pub blocks_whole : (k : ℕ) → 2 ^ mid_of k * 2 ^ (k - mid_of k) ≡ 2 ^ k
blocks_whole k = let e : mid_of k + (k - mid_of k) ≡ k = omega arith in sym (pow-add 2 (mid_of k) (k - mid_of k)) ∙ ap (λ n. 2 ^ n) e

-- a list in front of another
front_kept : {T : Type 0} (xs ys : List T) → take (length xs) xs ≡ take (length xs) (xs ++ ys)
front_kept xs ys = ap (take (length xs)) (sym (append-nil xs)) ∙ take_at xs [] (length xs) refl ∙ sym (take_at xs ys (length xs) refl)

back_is : {T : Type 0} (xs ys : List T) → ys ≡ take (length ys) (drop (length xs) (xs ++ ys))
back_is xs ys = sym (ap (take (length ys)) (drop_at xs ys (length xs) refl) ∙ ap (take (length ys)) (sym (append-nil ys)) ∙ take_at ys [] (length ys) refl)

-- the cells of a slot, block by block
pub cells_whole : (k w : ℕ) → 2 ^ k * w ≡ 2 ^ mid_of k * (2 ^ (k - mid_of k) * w)
cells_whole k w = ap (λ n. n * w) (sym (blocks_whole k)) ∙ omega arith

-- the rows of a slot have numbers
module _ {most k a w coefficients m n : ℕ} (is : IsSlot most k a w coefficients m n) where
  slot_room : m * 2 ^ k + 2 ^ k < 2 ^ 64
  slot_room =
      let less : suc m * 2 ^ k ≤ 2 ^ a * 2 ^ k = mul-le-mul_right (2 ^ k) is.slot in
      let next : suc m * 2 ^ k ≡ m * 2 ^ k + 2 ^ k = omega arith in
      let fits : 2 ^ (k + a) < 2 ^ 64 = pow-lt is.fits_u64 in
      lt_of_le_of_lt (omega (arith, less, next, pow-add 2 k a)) fits

  pub slot_starts : m * 2 ^ k % 18446744073709551616 ≡ m * 2 ^ k
  slot_starts = mod-eq_of_lt (omega (arith, slot_room))

  pub slot_ends : m * 2 ^ k % 18446744073709551616 + 2 ^ k < 18446744073709551616
  slot_ends = rw slot_starts slot_room

-- the number of the first row of a slot but the first, as it is where the others are lent in blocks
pub slot_first : (k p : ℕ) → (p + 1) * 2 ^ k ≡ 2 ^ k + p * (2 ^ mid_of k * 2 ^ (k - mid_of k))
slot_first k p = let next : (p + 1) * 2 ^ k ≡ 2 ^ k + p * 2 ^ k = omega arith in next ∙ ap (λ n. 2 ^ k + p * n) (sym (blocks_whole k))

module _ {F : Type 0} (f : FieldMembers F) (generator : ℕ → F) (k a w : ℕ) (s : f.Element) where
  -- slot m is lent: its rows, as rows of all
  pub slot_lent : {C R : Type 0} (b n m : ℕ) (shift : f.Element) (coefficients after : List F) → AreRoots f.ring (k + a) (forward_root f generator)
      → shift ≡ point f.ring (forward_root f generator) (k + a) s (rev a m) → (step : C → ℕ → RowMajor F → Result ⊤ R → C → Type 0)
      (from first : ℕ) (c : C) (result : Result ⊤ R) (e : C) → from ≡ first
      → LentInBlocks step from b w n (λ q. HasRowsOnCoset f generator k w shift (q * b) coefficients after) after c result e
      → LentInBlocks step first b w n (λ q. (r : ℕ) → r < q * b → r < 2 ^ k → (j : ℕ) → j < w → f.value (get_or after (r * w + j) f.zero)
      ≡ (extended_rows f generator k a w s coefficients).entry (m * 2 ^ k + r) j) after c result e
  slot_lent b n m shift coefficients after roots is step from first c result e same lent =
      let rows = λ (q : ℕ) (held : HasRowsOnCoset f generator k w shift (q * b) coefficients after)
      (r : ℕ) (below : r < q * b) (small : r < 2 ^ k) (j : ℕ) (inside : j < w). held r j below inside
      ∙ slot_row f.ring (forward_root f generator) k a m r s shift (λ q. f.value (get_or coefficients (rev k q * w + j) f.zero)) roots is small in
      subst (λ x. LentInBlocks step x b w n (λ q. (r : ℕ) → r < q * b → r < 2 ^ k → (j : ℕ) → j < w → f.value (get_or after (r * w + j) f.zero)
      ≡ (extended_rows f generator k a w s coefficients).entry (m * 2 ^ k + r) j) after c result e) same
      (MatchResult-weaker result lent
      (λ _ given. (rows n given.0, given.1))
      (λ refusal given. let (q, below, held, stopped) = given in (q, below, rows (q + 1) held, stopped)))

  -- the coefficients are the front of the values as they were
  module _ (values coefficients others : List F) (split : values ≡ coefficients ++ others) (size : length coefficients ≡ 2 ^ k * w) where
    own_entry : (r j : ℕ) → j < w → (extended_rows f generator k a w s coefficients).entry r j ≡ (extended_rows f generator k a w s values).entry r j
    own_entry r j inside =
        of_front f k w j (rev k) (point f.ring (forward_root f generator) (k + a) s (rev (k + a) r)) coefficients others values split size
        (λ u below. rev-lt k u) inside

    -- the first n rows of the first slot, and of the others, as rows of the values
    pub front_told : (n : ℕ) (front : List F)
        → ((r : ℕ) → r < n → r < 2 ^ k → (j : ℕ) → j < w → f.value (get_or front (r * w + j) f.zero)
        ≡ (extended_rows f generator k a w s coefficients).entry (0 * 2 ^ k + r) j)
        → (r j : ℕ) → r < n → r < 2 ^ k → j < w → f.value (get_or front (r * w + j) f.zero)
        ≡ (extended_rows f generator k a w s values).entry (0 * 2 ^ k + r) j
    front_told n front told r j below small inside = told r below small j inside ∙ own_entry (0 * 2 ^ k + r) j inside

    pub others_told : (m n size h : ℕ) (now : List F) → size ≡ 2 ^ k * w → h ≡ 2 ^ k
        → ((p r : ℕ) → r < h → p * h + r < n → r < 2 ^ k → (j : ℕ) → j < w → f.value (get_or (chunk_of size p now) (r * w + j) f.zero)
        ≡ (extended_rows f generator k a w s coefficients).entry ((p + 1) * 2 ^ k + r) j)
        → m ≤ n → (r j : ℕ) → r < m → j < w → f.value (get_or now (r * w + j) f.zero) ≡ (extended_rows f generator k a w s values).entry (2 ^ k + r) j
    others_told m n size h now is whole told few =
        other_rows f.value f.zero k w size m now (extended_rows f generator k a w s values).entry is
        (λ p t j near small inside.
        let same : p * h ≡ p * 2 ^ k = ap (λ x. p * x) whole in
        told p t (omega (arith, small, whole)) (omega (arith, near, same, few)) small j inside ∙ own_entry ((p + 1) * 2 ^ k + t) j inside)

-- the blocks of all slots
pub blocks_all : {T : Type 0} (place k a w b n : ℕ) (front others : List T) → n * b ≡ 2 ^ k → place + 1 ≡ 2 ^ a
    → length front ≡ 2 ^ k * w → place * (2 ^ k * w) ≤ length others
    → slot_blocks 0 b w front n ++ slot_blocks (2 ^ k) b w others (place * n) ≡ slot_blocks 0 b w (front ++ others) (2 ^ a * n)
blocks_all place k a w b n front others blocks all size room =
    let cells : n * (b * w) ≡ 2 ^ k * w = let assoc : n * (b * w) ≡ n * b * w = omega arith in assoc ∙ ap (λ m. m * w) blocks in
    let all_cells : place * n * (b * w) ≡ place * (2 ^ k * w) =
    let assoc : place * n * (b * w) ≡ place * (n * (b * w)) = omega arith in assoc ∙ ap (λ m. place * m) cells in
    let kept = blocks_kept 0 b w front (front ++ others) n (length front) (omega (arith, size, cells)) (front_kept front others) in
    let joined =
    blocks_of_part 0 (2 ^ k) b w n (place * n) (length front) (length others) (front ++ others) others
    (omega (arith, blocks)) (size ∙ sym cells) (omega (arith, room, all_cells)) (back_is front others) in
    let count : n + place * n ≡ 2 ^ a * n = let next : n + place * n ≡ (place + 1) * n = omega arith in next ∙ ap (λ m. m * n) all in
    ap (λ xs. xs ++ slot_blocks (2 ^ k) b w others (place * n)) kept ∙ joined ∙ ap (slot_blocks 0 b w (front ++ others)) count

-- The slots are n blocks of b rows each. Blocks of the slots behind the first are lent, and then those of the first.
module _ {T A : Type 0} (value : T → A) (d : T) (k a w b n : ℕ) (wide : 1 ≤ w) (some : 1 ≤ b) (whole : n * b ≡ 2 ^ k)
    (out : Matrix A) (same_width : out.width ≡ w) (same_height : out.height ≡ 2 ^ (k + a))
    (others : List T) (long : length others ≡ (2 ^ a - 1) * (2 ^ k * w)) where
  tall : out.height ≡ (2 ^ a - 1) * 2 ^ k + 2 ^ k
  tall = same_height ∙ others_rows k a

  -- the first m of the others
  others_blocks : (m : ℕ) → m ≤ (2 ^ a - 1) * n → ((r j : ℕ) → r < m * b → j < w → value (get_or others (r * w + j) d) ≡ out.entry (2 ^ k + r) j)
      → AreBlocksOf (λ x. image value (matrix d x)) b out (slot_blocks (2 ^ k) b w others m)
  others_blocks m few rows =
      let most : m * b ≤ (2 ^ a - 1) * n * b = mul-le-mul_right b few in
      let all : (2 ^ a - 1) * n * b ≡ (2 ^ a - 1) * 2 ^ k = let assoc : (2 ^ a - 1) * n * b ≡ (2 ^ a - 1) * (n * b) = omega arith in
      assoc ∙ ap (λ x. (2 ^ a - 1) * x) whole in
      let cells : m * b * w ≤ (2 ^ a - 1) * n * b * w = mul-le-mul_right w most in
      let flat : m * (b * w) ≡ m * b * w = omega arith in
      let all_cells : (2 ^ a - 1) * n * b * w ≡ (2 ^ a - 1) * (2 ^ k * w) = ap (λ x. x * w) all ∙ omega arith in
      are_blocks value d b w some wide out same_width (2 ^ k) n others m (sym whole) (omega (arith, flat, cells, all_cells, long))
      (omega (arith, tall, most, all)) rows

  -- a block of the others is refused
  pub refused_in_others : {C R : Type 0} (step : C → ℕ → RowMajor T → Result ⊤ R → C → Type 0) (m : ℕ) (refusal : R) (c e : C)
      → m < (2 ^ a - 1) * n → ((r j : ℕ) → r < (m + 1) * b → j < w → value (get_or others (r * w + j) d) ≡ out.entry (2 ^ k + r) j)
      → RunToRefusal step c (slot_blocks (2 ^ k) b w others m) (slot_block (2 ^ k) b w others m) refusal e
      → (accepted : List (ℕ × RowMajor T)) × (refused : ℕ × RowMajor T)
      × AreBlocksOf (λ x. image value (matrix d x)) b out (accepted ++ refused ∷ []) × RunToRefusal step c accepted refused refusal e
  refused_in_others step m refusal c e below rows stopped = (
    slot_blocks (2 ^ k) b w others m,
    slot_block (2 ^ k) b w others m,
    subst (AreBlocksOf (λ x. image value (matrix d x)) b out) (map-range_with_len_more (slot_block (2 ^ k) b w others) 0 m m (omega arith))
        (others_blocks (m + 1) (omega (arith, below)) rows),
    stopped,
  )

  -- all blocks of the others are accepted, and one of the first slot is refused
  pub refused_in_first : {C R : Type 0} (step : C → ℕ → RowMajor T → Result ⊤ R → C → Type 0) (m : ℕ) (refusal : R) (c middle e : C)
      (front : List T) → length front ≡ 2 ^ k * w → m < n
      → ((r j : ℕ) → r < (2 ^ a - 1) * n * b → j < w → value (get_or others (r * w + j) d) ≡ out.entry (2 ^ k + r) j)
      → ((r j : ℕ) → r < (m + 1) * b → j < w → value (get_or front (r * w + j) d) ≡ out.entry (0 * 2 ^ k + r) j)
      → Run step c (slot_blocks (2 ^ k) b w others ((2 ^ a - 1) * n)) middle
      → RunToRefusal step middle (slot_blocks 0 b w front m) (slot_block 0 b w front m) refusal e
      → (accepted : List (ℕ × RowMajor T)) × (refused : ℕ × RowMajor T)
      × AreBlocksOf (λ x. image value (matrix d x)) b out (accepted ++ refused ∷ []) × RunToRefusal step c accepted refused refusal e
  refused_in_first step m refusal c middle e front size within late own told stopped =
      let all = (2 ^ a - 1) * n in
      let few : (m + 1) * b ≤ n * b = mul-le-mul_right b (let l : m + 1 ≤ n = omega (arith, within) in l) in
      let cells : (m + 1) * b * w ≤ n * b * w = mul-le-mul_right w few in
      let flat : (m + 1) * (b * w) ≡ (m + 1) * b * w = omega arith in
      let joined = append_assoc (slot_blocks (2 ^ k) b w others all) (slot_blocks 0 b w front m) (slot_block 0 b w front m ∷ [])
      ∙ ap (λ ys. slot_blocks (2 ^ k) b w others all ++ ys) (sym (map-range_with_len_more (slot_block 0 b w front) 0 m m (omega arith))) in (
        slot_blocks (2 ^ k) b w others all ++ slot_blocks 0 b w front m,
        slot_block 0 b w front m,
        subst (AreBlocksOf (λ x. image value (matrix d x)) b out) (sym joined)
            (blocks_joined value d b w some wide out same_width (slot_blocks (2 ^ k) b w others all) (slot_blocks 0 b w front (m + 1))
            (λ i j e first second.
            let i_below : i < all = omega (arith, first, length-map-range_with_len (slot_block (2 ^ k) b w others) 0 all) in
            let j_below : j < m + 1 = omega (arith, second, length-map-range_with_len (slot_block 0 b w front) 0 (m + 1)) in
            let j_end : suc j * b ≤ (m + 1) * b = mul-le-mul_right b j_below in
            rw (
              get_or-map-range_with_len (slot_block (2 ^ k) b w others) 0 all i i e i_below (omega arith),
              get_or-map-range_with_len (slot_block 0 b w front) 0 (m + 1) j j e j_below (omega arith),
            )
            (λ same. omega (arith, same, j_end, few, whole, some)))
            (others_blocks all (le_refl all) late)
            (are_blocks value d b w some wide out same_width 0 0 front (m + 1) (omega arith) (omega (arith, flat, cells, ap (λ x. x * w) whole, size))
            (omega (arith, tall, few, whole))
            (λ r j below inside. own r j below inside ∙ ap (λ u. out.entry u j) (let same : 0 * 2 ^ k + r ≡ 0 + r = omega arith in same)))),
        refusal_joined step _ _ _ refusal c middle e told stopped,
      )
