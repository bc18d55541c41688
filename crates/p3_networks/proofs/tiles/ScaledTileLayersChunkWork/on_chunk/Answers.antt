use Rattle.p3_networks.proofs.Lemmas.{◌≡◌, ℕ, ◌+◌, ◌-◌, ◌*◌, ◌++◌, ◌<◌, ◌≤◌, ◌^◌, length, get_or, take, drop, sym, ap, ◌∙◌, subst, arith, get_or_default}
use Rattle.p3_networks.proofs.Lemmas.{dif_far, HoldsCells}
use Rattle.p3_networks.proofs.Layers.Joined.{half_sizes, high_held, joined_counted, joined_held, low_held}
use borrow.Author.Rules.{scaled_Fits}
use Rattle.p3_networks.proofs.tiles.ScaledTileLayersChunkWork.on_chunk.Goals as goal

some_layer : (r : ℕ) → (r ≡ 0 → ⊥) → 1 ≤ r
some_layer r some = omega (arith, some)

-- the twiddle of a chunk is one of all
twiddle_place : (number rows len : ℕ) → 2 * number + 2 ≤ rows → rows ≤ 2 * len → number < len
twiddle_place number rows len more enough = omega (arith, more, enough)

pub overflow_mul-number : goal.overflow_mul-number
overflow_mul-number g c =
    omega (
      arith,
      (half_sizes c.args.self.now.log_rows c.args.self.now.width c.args.number (length c.args.chunk.now)
          (some_layer _ c.if-self-eq0.false) c.requires.0.size).more,
      c.requires.0.fits_u64,
    )

pub overflow_mul-number-2 : goal.overflow_mul-number-2
overflow_mul-number-2 g c =
    omega (
      arith,
      (half_sizes c.args.self.now.log_rows c.args.self.now.width c.args.number (length c.args.chunk.now)
          (some_layer _ c.if-self-eq0.false) c.requires.0.size).more,
      c.requires.0.fits_u64,
    )

pub overflow_add-number : goal.overflow_add-number
overflow_add-number g c =
    omega (
      arith,
      (half_sizes c.args.self.now.log_rows c.args.self.now.width c.args.number (length c.args.chunk.now)
          (some_layer _ c.if-self-eq0.false) c.requires.0.size).more,
      c.requires.0.fits_u64,
    )

pub layers_of_tile-requires-clause-chunk : goal.layers_of_tile-requires-clause-chunk
layers_of_tile-requires-clause-chunk g c =
    let chunk = c.requires.0 in
    let n = c.args.number in
    let p = 2 ^ (c.args.self.now.log_rows - 1) in
    let sizes = half_sizes c.args.self.now.log_rows c.args.self.now.width n (length c.args.chunk.now) (some_layer _ c.if-self-eq0.false) chunk.size in
    let next : (2 * n + 1) * p ≡ 2 * n * p + p = omega arith in
    record {
      width = chunk.width;
      fits_u64 = omega (arith, next, sizes.rows, chunk.fits_u64);
      enough = omega (arith, next, sizes.rows, chunk.enough);
      size = c.split_at_mut-low.ensures.front_len ∙ sizes.half_is;
    }

pub layers_of_tile-requires-2-clause-chunk : goal.layers_of_tile-requires-2-clause-chunk
layers_of_tile-requires-2-clause-chunk g c =
    let chunk = c.requires.0 in
    let n = c.args.number in
    let p = 2 ^ (c.args.self.now.log_rows - 1) in
    let sizes = half_sizes c.args.self.now.log_rows c.args.self.now.width n (length c.args.chunk.now) (some_layer _ c.if-self-eq0.false) chunk.size in
    let next : (2 * n + 1 + 1) * p ≡ 2 * n * p + 2 * p = omega arith in
    record {
      width = chunk.width;
      fits_u64 = omega (arith, next, sizes.rows, chunk.fits_u64);
      enough = omega (arith, next, sizes.rows, chunk.enough);
      size = omega (arith, c.split_at_mut-low.ensures.back_len, sizes.half_is, sizes.whole);
    }

pub offset_bounds-self-number : goal.offset_bounds-self-number
offset_bounds-self-number g c =
    scaled_Fits _ _ _ (twiddle_place c.args.number _ (length c.args.self.now.twiddles.now) (half_sizes
    c.args.self.now.log_rows c.args.self.now.width c.args.number (length c.args.chunk.now)
    (some_layer _ c.if-self-eq0.false) c.requires.0.size).more c.requires.0.enough) search

pub bounds-self-number : goal.bounds-self-number
bounds-self-number g c =
    twiddle_place c.args.number _ _ (half_sizes c.args.self.now.log_rows c.args.self.now.width c.args.number
    (length c.args.chunk.now) (some_layer _ c.if-self-eq0.false) c.requires.0.size).more c.requires.0.enough

pub join_scaled-requires : goal.join_scaled-requires
join_scaled-requires g c =
    let sizes =
    half_sizes c.args.self.now.log_rows c.args.self.now.width c.args.number (length c.args.chunk.now)
    (some_layer _ c.if-self-eq0.false) c.requires.0.size in
    omega (
      arith,
      c.layers_of_tile.auto.values,
      c.layers_of_tile-2.auto.values,
      c.split_at_mut-low.ensures.front_len,
      c.split_at_mut-low.ensures.back_len,
      sizes.half_is,
      sizes.whole,
    )

-- Each half of the tile is a tile of one layer less, and holds the cells before the last layer; the scaled layer joins both.
pub returns-clause-chunk : goal.returns-clause-chunk
returns-clause-chunk g c k cells layers room holds =
    let field = g.F.Valued in
    let it = c.args.self.now in
    let n = c.args.number in
    let r = it.log_rows in
    let h = 2 ^ (r - 1) * it.width in
    let p = 2 ^ (r - 1) in
    let before = c.args.chunk.now in
    let entry = λ (b : ℕ). field.value (get_or it.twiddles.now b field.zero) in
    let some = some_layer r c.if-self-eq0.false in
    let sizes = half_sizes r it.width n (length before) some c.requires.0.size in
    let twiddle =
    ap field.value (get_or_default it.twiddles.now n c.index-self-number.result field.zero
    (twiddle_place n _ _ sizes.more c.requires.0.enough)) in
    let front = c.split_at_mut-low.ensures in
    let low = c.layers_of_tile.new.values in
    let high = c.layers_of_tile-2.new.values in
    let was_low : length c.split_at_mut-low.result.0.now ≡ h = front.front_len ∙ sizes.half_is in
    let was_high : length c.split_at_mut-low.result.1.now ≡ h = omega (arith, front.back_len, sizes.half_is, sizes.whole) in
    let long : length low ≡ h = c.layers_of_tile.auto.values ∙ was_low in
    let also : length high ≡ h = c.layers_of_tile-2.auto.values ∙ was_high in
    let first_room : (2 * n + 1) * p ≤ 2 ^ k = let next : (2 * n + 1) * p ≡ 2 * n * p + p = omega arith in omega (arith, next, sizes.rows, room) in
    let second_room : (2 * n + 1 + 1) * p ≤ 2 ^ k = let next : (2 * n + 1 + 1) * p ≡ 2 * n * p + 2 * p = omega arith in omega (arith, next, sizes.rows, room) in
    let plain : 0 + (r - 1 - 0) ≡ r - 1 = omega arith in
    let low_holds : HoldsCells field.value field.zero (2 * n * length low) (cells (r - 1)) low =
    subst (λ (m : ℕ). HoldsCells field.value field.zero (2 * n * m) (cells (r - 1)) low) (sym c.layers_of_tile.auto.values)
    (subst (λ (e : ℕ). HoldsCells field.value field.zero (2 * n * length c.split_at_mut-low.result.0.now) (cells e) low) plain
    (c.layers_of_tile.ensures.cells.taken k cells layers first_room
    (low_held field.value field.zero (cells 0) before c.split_at_mut-low.result.0.now n h
    (subst (λ (m : ℕ). c.split_at_mut-low.result.0.now ≡ take m before) sizes.half_is front.front) was_low sizes.whole
    holds))) in
    let high_holds : HoldsCells field.value field.zero ((2 * n + 1) * length high) (cells (r - 1)) high =
    subst (λ (m : ℕ). HoldsCells field.value field.zero ((2 * n + 1) * m) (cells (r - 1)) high) (sym c.layers_of_tile-2.auto.values)
    (subst (λ (e : ℕ). HoldsCells field.value field.zero ((2 * n + 1) * length c.split_at_mut-low.result.1.now) (cells e) high) plain
    (c.layers_of_tile-2.ensures.cells.taken k cells layers second_room
    (high_held field.value field.zero (cells 0) before c.split_at_mut-low.result.1.now n h
    (subst (λ (m : ℕ). c.split_at_mut-low.result.1.now ≡ drop m before) sizes.half_is front.back) was_high sizes.whole
    holds))) in
    subst (λ (m : ℕ). HoldsCells field.value field.zero (n * m) (λ i. field.ring.mul (cells r i) (field.value it.scale))
    (c.join_scaled.new.low ++ c.join_scaled.new.high)) (sym sizes.whole)
    (joined_held field.ring field.value field.zero entry (field.value it.scale) k it.width r n cells low high
    c.join_scaled.new.low c.join_scaled.new.high some layers room
    long also (c.join_scaled.auto.low ∙ long) (c.join_scaled.auto.high ∙ also) low_holds high_holds c.join_scaled.ensures.near
    (λ j inside. c.join_scaled.ensures.far j inside
    ∙ ap (λ t. field.ring.mul (dif_far field.ring t (field.value (get_or low j field.zero))
    (field.value (get_or high j field.zero))) (field.value it.scale)) twiddle))

pub returns-clause-cost : goal.returns-clause-cost
returns-clause-cost g c =
    let r = c.args.self.now.log_rows in
    let h = 2 ^ (r - 1) * c.args.self.now.width in
    let some = some_layer r c.if-self-eq0.false in
    let sizes = half_sizes r c.args.self.now.width c.args.number (length c.args.chunk.now) some c.requires.0.size in
    let front = c.split_at_mut-low.ensures in
    let was_low : length c.split_at_mut-low.result.0.now ≡ h = front.front_len ∙ sizes.half_is in
    let was_high : length c.split_at_mut-low.result.1.now ≡ h = omega (arith, front.back_len, sizes.half_is, sizes.whole) in
    let next : r - 1 + 1 + 2 ≡ r + 2 = omega (arith, some) in
    let counted = joined_counted (r - 1) h c.args.products.now c.layers_of_tile.new.products c.layers_of_tile-2.new.products c.join_scaled.new.products
    (subst (λ (m : ℕ). 2 * c.layers_of_tile.new.products ≤ 2 * c.args.products.now + 1 * ((r - 1) * m)) was_low c.layers_of_tile.ensures.cost.cost)
    (subst (λ (m : ℕ). 2 * c.layers_of_tile-2.new.products ≤ 2 * c.layers_of_tile.new.products + 1 * ((r - 1) * m))
    was_high c.layers_of_tile-2.ensures.cost.cost)
    (c.join_scaled.ensures.count ∙ ap (λ m. c.layers_of_tile-2.new.products + 2 * m) (c.layers_of_tile.auto.values ∙ was_low)) in
    record {
      grows = omega (arith, c.layers_of_tile.ensures.cost.grows, c.layers_of_tile-2.ensures.cost.grows, c.join_scaled.ensures.count);
      cost = subst (λ (m : ℕ). 2 * c.join_scaled.new.products ≤ 2 * c.args.products.now + m)
          (ap (λ m. m * (2 * h)) next ∙ ap (λ m. (r + 2) * m) (sym sizes.whole)) counted;
    }
