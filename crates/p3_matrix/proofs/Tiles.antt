-- Places by tiles: the digits of a place are k first ones, m of its tile and k last ones.
use Rattle.p3_matrix.proofs.Names.{◌≡◌, ℕ, ◌+◌, ◌-◌, ◌*◌, ◌/◌, ◌%◌, ◌<◌, ◌≤◌, ◌^◌, ◌⊎◌, inl, inr, ⊎_elim, refl, sym, ap, ap₂, ◌∙◌, arith, Fits, le_of_lt}
use Rattle.p3_matrix.proofs.Names.{lt_of_lt_of_le, cases_lt, pow-add, pow_pos, pow_below, div-mul-add, mod-mul-add, div-add-mod', div_below, mod_below, rev}
use Rattle.p3_matrix.proofs.Names.{w64, mul-le-mul_right, add-mul}
use Rattle.p3_matrix.proofs.BitReversal.{rev-lt, rev-rev, rev-block}
use Rattle.p3_matrix.proofs.RowMajor.{row_within}
use Rattle.p3_matrix.proofs.HalfReversed.{AreNumbers}

-- a number of two parts is below the next multiple
pub part_lt : (a b w r : ℕ) → a < b → r < w → a * w + r < b * w
part_lt a b w r l q = omega (arith, row_within a b w (b * w) l refl)

-- the order of two parts is that of the first ones
pub part_order : (a b w r s : ℕ) → a < b → r < w → a * w + r < b * w + s
part_order a b w r s l q = omega (arith, part_lt a b w r l q)

-- equal numbers have equal parts
pub parts_same : (a b w r s : ℕ) → r < w → s < w → a * w + r ≡ b * w + s → (a ≡ b) × (r ≡ s)
parts_same a b w r s q o e =
    (sym (div-mul-add a w r q) ∙ ap (λ x. x / w) e ∙ div-mul-add b w s o, sym (mod-mul-add a w r q) ∙ ap (λ x. x % w) e ∙ mod-mul-add b w s o)

-- the number of a place, from its digits
abbrev pub place : ℕ → ℕ → ℕ → ℕ → ℕ → ℕ
place tiles side a r b = (a * tiles + r) * side + b

-- tile after tile
abbrev pub tile_order : ℕ → ℕ → ℕ → ℕ
tile_order tiles side p = (p / side % tiles * side + p / side / tiles) * side + p % side

module _ (tiles side : ℕ) where
  pub place_lt : (a r b : ℕ) → a < side → r < tiles → b < side → place tiles side a r b < side * tiles * side
  place_lt a r b l m n = part_lt (a * tiles + r) (side * tiles) side b (part_lt a side tiles r l m) n

  pub order_at : (a r b : ℕ) → r < tiles → b < side → tile_order tiles side (place tiles side a r b) ≡ (r * side + a) * side + b
  order_at a r b m n =
      let q : place tiles side a r b / side ≡ a * tiles + r = div-mul-add (a * tiles + r) side b n in
      let s : place tiles side a r b % side ≡ b = mod-mul-add (a * tiles + r) side b n in
      ap₂ (λ x y. (x % tiles * side + x / tiles) * side + y) q s
      ∙ ap₂ (λ x y. (x * side + y) * side + b) (mod-mul-add a tiles r m) (div-mul-add a tiles r m)

  -- the digits of a place
  pub place_of : (p : ℕ) → place tiles side (p / side / tiles) (p / side % tiles) (p % side) ≡ p
  place_of p = ap (λ x. x * side + p % side) (div-add-mod' (p / side) tiles) ∙ div-add-mod' p side

  module _ (some : 0 < tiles) (wide : 0 < side) where
    pub first_lt : (p : ℕ) → p < side * tiles * side → p / side / tiles < side
    first_lt p l = div_below (p / side) tiles side some (div_below p side (side * tiles) wide l)

    pub order_lt : (p : ℕ) → p < side * tiles * side → tile_order tiles side p < tiles * side * side
    order_lt p l = part_lt (p / side % tiles * side + p / side / tiles) (tiles * side) side (p % side)
        (part_lt (p / side % tiles) tiles side (p / side / tiles) (mod_below (p / side) tiles some) (first_lt p l)) (mod_below p side wide)

    pub order_same : (p q : ℕ) → p < side * tiles * side → q < side * tiles * side → tile_order tiles side p ≡ tile_order tiles side q → p ≡ q
    order_same p q l m e =
        let outer = parts_same (p / side % tiles * side + p / side / tiles) (q / side % tiles * side + q / side / tiles) side (p % side) (q % side)
        (mod_below p side wide) (mod_below q side wide) e in
        let inner = parts_same (p / side % tiles) (q / side % tiles) side (p / side / tiles) (q / side / tiles) (first_lt p l) (first_lt q m) outer.0 in
        let high : p / side ≡ q / side = sym (div-add-mod' (p / side) tiles) ∙ ap₂ (λ x y. x * tiles + y) inner.1 inner.0 ∙ div-add-mod' (q / side) tiles in
        sym (div-add-mod' p side) ∙ ap₂ (λ x y. x * side + y) high outer.1 ∙ div-add-mod' q side

module _ (bits m k : ℕ) (parts : bits ≡ k + m + k) where
  pub size_is : 2 ^ bits ≡ 2 ^ k * 2 ^ m * 2 ^ k
  size_is = ap (λ n. 2 ^ n) parts ∙ pow-add 2 (k + m) k ∙ ap (λ x. x * 2 ^ k) (pow-add 2 k m)

  pub place_below : (a r b : ℕ) → a < 2 ^ k → r < 2 ^ m → b < 2 ^ k → place (2 ^ m) (2 ^ k) a r b < 2 ^ bits
  place_below a r b l n o = omega (arith, place_lt (2 ^ m) (2 ^ k) a r b l n o, size_is)

  -- the mirror of a place
  pub rev_place : (a r b : ℕ) → a < 2 ^ k → r < 2 ^ m → b < 2 ^ k → rev bits (place (2 ^ m) (2 ^ k) a r b) ≡ place (2 ^ m) (2 ^ k) (rev k b) (rev m r) (rev k a)
  rev_place a r b l n o =
      let low : r * 2 ^ k + b < 2 ^ (k + m) = omega (arith, part_lt r (2 ^ m) (2 ^ k) b n o, pow-add 2 k m) in
      let is : place (2 ^ m) (2 ^ k) a r b ≡ a * 2 ^ (k + m) + (r * 2 ^ k + b) = omega (arith, ap (λ x. a * x) (pow-add 2 k m)) in
      ap₂ rev parts is ∙ rev-block (k + m) k a (r * 2 ^ k + b) low ∙ ap (λ x. x * 2 ^ k + rev k a) (rev-block k m r b o)

  pub are_numbers : AreNumbers bits (tile_order (2 ^ m) (2 ^ k))
  are_numbers p q l n e = order_same (2 ^ m) (2 ^ k) (pow_pos m) (pow_pos k) p q (omega (arith, size_is)) (omega (arith, size_is)) e

  pub all_below : (p : ℕ) → p < 2 ^ bits → tile_order (2 ^ m) (2 ^ k) p < 2 ^ m * 2 ^ k * 2 ^ k
  all_below p l = order_lt (2 ^ m) (2 ^ k) (pow_pos m) (pow_pos k) p (omega (arith, size_is))

  -- where a tile comes before its mirror, so do its places; a tile that is its own mirror has them in the order of their first digits
  pub number_lt : (a r b : ℕ) → a < 2 ^ k → r < 2 ^ m → b < 2 ^ k → r ≤ rev m r → (r < rev m r) ⊎ (a < rev k b)
      → (r * 2 ^ k + a) * 2 ^ k + b < tile_order (2 ^ m) (2 ^ k) (place (2 ^ m) (2 ^ k) (rev k b) (rev m r) (rev k a))
  number_lt a r b l n o first before =
      let at = order_at (2 ^ m) (2 ^ k) (rev k b) (rev m r) (rev k a) (rev-lt m r) (rev-lt k a) in
      omega (arith, at, part_order (r * 2 ^ k + a) (rev m r * 2 ^ k + rev k b) (2 ^ k) b (rev k a) (go before) o)
    where
      go : (r < rev m r) ⊎ (a < rev k b) → r * 2 ^ k + a < rev m r * 2 ^ k + rev k b
      go (inl c) = part_order r (rev m r) (2 ^ k) a (rev k b) c l
      go (inr c) =
          ⊎_elim (λ d. part_order r (rev m r) (2 ^ k) a (rev k b) d l)
          (λ d. let e : r ≡ rev m r = omega arith in omega (arith, ap (λ x. x * 2 ^ k) e)) (cases_lt r (rev m r))

  pub number_le : (a r b : ℕ) → a < 2 ^ k → r < 2 ^ m → b < 2 ^ k → rev m r ≤ r → rev k b ≤ a
      → tile_order (2 ^ m) (2 ^ k) (place (2 ^ m) (2 ^ k) (rev k b) (rev m r) (rev k a)) ≤ (r * 2 ^ k + a) * 2 ^ k + b
  number_le a r b l n o tile before =
      let at = order_at (2 ^ m) (2 ^ k) (rev k b) (rev m r) (rev k a) (rev-lt m r) (rev-lt k a) in
      omega (arith, at, go (cases_lt (rev m r) r) (cases_lt (rev k b) a))
    where
      go : (rev m r < r) ⊎ (r ≤ rev m r) → (rev k b < a) ⊎ (a ≤ rev k b) → (rev m r * 2 ^ k + rev k b) * 2 ^ k + rev k a ≤ (r * 2 ^ k + a) * 2 ^ k + b
      go (inl c) q =
          omega (
            arith,
            part_order (rev m r * 2 ^ k + rev k b) (r * 2 ^ k + a) (2 ^ k) (rev k a) b
                (part_order (rev m r) r (2 ^ k) (rev k b) a c (rev-lt k b)) (rev-lt k a),
          )
      go (inr c) (inl q) =
          let e : rev m r ≡ r = omega arith in
          let s : rev m r * 2 ^ k + rev k b < r * 2 ^ k + a = omega (arith, ap (λ x. x * 2 ^ k) e) in
          omega (arith, part_order (rev m r * 2 ^ k + rev k b) (r * 2 ^ k + a) (2 ^ k) (rev k a) b s (rev-lt k a))
      go (inr c) (inr q) =
          let e : rev m r ≡ r = omega arith in
          let f : rev k b ≡ a = omega arith in
          let s : rev k a ≡ b = ap (rev k) (sym f) ∙ rev-rev k b o in
          omega (arith, ap₂ (λ x y. (x * 2 ^ k + y) * 2 ^ k) e f)

  -- the places of a tile whose mirror came before it
  pub tile_done : (r p : ℕ) → r < 2 ^ m → rev m r < r → p < 2 ^ bits → r * 2 ^ k * 2 ^ k ≤ tile_order (2 ^ m) (2 ^ k) p
      → tile_order (2 ^ m) (2 ^ k) p < (r + 1) * 2 ^ k * 2 ^ k
      → tile_order (2 ^ m) (2 ^ k) (rev bits p) < r * 2 ^ k * 2 ^ k
  tile_done r p n before l low high =
      let h = 2 ^ k in
      let a = p / h / 2 ^ m in
      let t = p / h % 2 ^ m in
      let b = p % h in
      let first : a < h = first_lt (2 ^ m) h (pow_pos m) (pow_pos k) p (omega (arith, size_is)) in
      let tile : t < 2 ^ m = mod_below (p / h) (2 ^ m) (pow_pos m) in
      let last : b < h = mod_below p h (pow_pos k) in
      let same : t ≡ r = here a t b first last low high (cases_lt t r) (cases_lt r t) in
      let mirror : rev bits p ≡ place (2 ^ m) h (rev k b) (rev m t) (rev k a) = ap (rev bits) (sym (place_of (2 ^ m) h p)) ∙ rev_place a t b first tile last in
      let at : tile_order (2 ^ m) h (rev bits p) ≡ (rev m t * h + rev k b) * h + rev k a =
      ap (tile_order (2 ^ m) h) mirror ∙ order_at (2 ^ m) h (rev k b) (rev m t) (rev k a) (rev-lt m t) (rev-lt k a) in
      omega (
        arith,
        at,
        part_lt (rev m t * h + rev k b) (r * h) h (rev k a)
            (part_lt (rev m t) r h (rev k b) (omega (arith, ap (rev m) same)) (rev-lt k b)) (rev-lt k a),
      )
    where
      here : (a t b : ℕ) → a < 2 ^ k → b < 2 ^ k → r * 2 ^ k * 2 ^ k ≤ (t * 2 ^ k + a) * 2 ^ k + b → (t * 2 ^ k + a) * 2 ^ k + b < (r + 1) * 2 ^ k * 2 ^ k
          → (t < r) ⊎ (r ≤ t) → (r < t) ⊎ (t ≤ r) → t ≡ r
      here a t b f g lo hi (inl c) q = absurd (omega (arith, part_lt (t * 2 ^ k + a) (r * 2 ^ k) (2 ^ k) b (part_lt t r (2 ^ k) a c f) g))
      here a t b f g lo hi (inr c) (inl q) = absurd (omega (arith, row_within r t (2 ^ k * 2 ^ k) (t * (2 ^ k * 2 ^ k)) q refl))
      here a t b f g lo hi (inr c) (inr q) = omega arith

-- chunks of w entries at different places
pub chunks_apart : (p q w : ℕ) → (p ≡ q → ⊥) → (p * w + w ≤ q * w) ⊎ (q * w + w ≤ p * w)
chunks_apart p q w n = ⊎_elim (λ l. inl (row_within p q w (q * w) l refl)) (λ l. inr (row_within q p w (p * w) (omega arith) refl)) (cases_lt p q)

-- a place and its mirror, by numbers that are those of tiles and of outer digits
module _ (bits m k : ℕ) (outer : 2 * k ≤ bits) (inner : m ≡ bits - 2 * k) (tiles side : ℕ) (ts : tiles ≡ 2 ^ m) (ss : side ≡ 2 ^ k) where
  pub digits : bits ≡ k + m + k
  digits = omega arith

  pub usize_size : bits ≤ 63 → side * tiles * side < 2 ^ 64
  usize_size l = omega (arith, ap₂ (λ x y. y * x * y) ts ss, size_is bits m k digits, pow_below bits 64 (omega arith))

  module _ (near a r b : ℕ) (is : near ≡ (a * tiles + r) * side + b) (la : a < side) (lr : r < tiles) (lb : b < side) where
    pub chunk_is : near ≡ place (2 ^ m) (2 ^ k) a r b
    chunk_is = is ∙ ap₂ (λ x y. (a * x + r) * y + b) ts ss

    pub chunk_lt : near < 2 ^ bits
    chunk_lt = omega (arith, chunk_is, place_below bits m k digits a r b (omega arith) (omega arith) (omega arith))

    pub chunk_in_tile_order : tile_order (2 ^ m) (2 ^ k) near ≡ (r * 2 ^ k + a) * 2 ^ k + b
    chunk_in_tile_order =
        ap (tile_order (2 ^ m) (2 ^ k)) chunk_is ∙ order_at (2 ^ m) (2 ^ k) a r b (omega arith) (omega arith)

    pub mirror_is : rev bits near ≡ place (2 ^ m) (2 ^ k) (rev k b) (rev m r) (rev k a)
    mirror_is = ap (rev bits) chunk_is ∙ rev_place bits m k digits a r b (omega arith) (omega arith) (omega arith)

    -- the partner of a place comes after it
    pub mirror_after : r ≤ rev m r → (r < rev m r) ⊎ (a < rev k b) → (r * 2 ^ k + a) * 2 ^ k + b < tile_order (2 ^ m) (2 ^ k) (rev bits near)
    mirror_after first before =
        omega (arith, number_lt bits m k digits a r b (omega arith) (omega arith) (omega arith) first before, ap (tile_order (2 ^ m) (2 ^ k)) mirror_is)

    pub mirror_not_after : rev m r ≤ r → rev k b ≤ a → tile_order (2 ^ m) (2 ^ k) (rev bits near) ≤ (r * 2 ^ k + a) * 2 ^ k + b
    mirror_not_after first before =
        omega (arith, number_le bits m k digits a r b (omega arith) (omega arith) (omega arith) first before, ap (tile_order (2 ^ m) (2 ^ k)) mirror_is)

    -- the partner, where its digits are those of the mirror
    module _ (far c s d : ℕ) (far_is : far ≡ (c * tiles + s) * side + d) (cs : c ≡ rev k b) (ms : s ≡ rev m r) (ds : d ≡ rev k a) where
      pub partner_is : far ≡ rev bits near
      partner_is = far_is ∙ ap₂ (λ x y. (c * x + s) * y + d) ts ss
          ∙ ap (λ x. (x * 2 ^ m + s) * 2 ^ k + d) cs ∙ ap₂ (λ x y. (rev k b * 2 ^ m + x) * 2 ^ k + y) ms ds ∙ sym mirror_is

      pub partner_after : r ≤ s → (r < s) ⊎ (a < c) → (r * 2 ^ k + a) * 2 ^ k + b < tile_order (2 ^ m) (2 ^ k) far
      partner_after first before =
          omega (
            arith,
            mirror_after (omega arith) (⊎_elim (λ l. inl (omega arith)) (λ l. inr (omega arith)) before),
            ap (tile_order (2 ^ m) (2 ^ k)) partner_is,
          )

      pub partner_not : r ≤ s → (r < s) ⊎ (a < c) → near ≡ far → ⊥
      partner_not first before e = omega (arith, partner_after first before, chunk_in_tile_order, ap (tile_order (2 ^ m) (2 ^ k)) e)

-- what a number of a chunk is made of fits as the count of all chunks does
pub chunk_fits : (first tile last tiles side : ℕ) → first < side → tile < tiles → last < side
    → side * tiles * side < 2 ^ 64 → Fits w64 ((first * tiles + tile) * side + last)
chunk_fits first tile last tiles side f t l small =
    let row : first * tiles + tile + 1 ≤ side * tiles = omega (arith, mul-le-mul_right tiles f, add-mul first 1 tiles, t) in
    record { fits = lt_of_lt_of_le (omega (arith, mul-le-mul_right side row, add-mul (first * tiles + tile) 1 side, l)) (le_of_lt small) }
