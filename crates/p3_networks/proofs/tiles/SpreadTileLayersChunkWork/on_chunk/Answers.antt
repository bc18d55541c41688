use Rattle.p3_networks.proofs.Lemmas.{◌≡◌, ℕ, suc, refl, ◌+◌, ◌-◌, ◌*◌, ◌/◌, ◌^◌, ◌<◌, ◌≤◌, length, get_or, sym, ap, ◌∙◌, subst, arith, add-sub_of_le, add-zero}
use Rattle.p3_networks.proofs.Lemmas.{le_refl, lt_of_le_of_lt, mul-le-mul_right, sub-le, power, HoldsCells, chunk_digits, turns_halved, block_size, one_shifted}
use Rattle.p3_networks.proofs.Lemmas.{row_at}
use Rattle.p3_networks.proofs.Layers.Tiles.{spread_held, spread_sizes}
use Rattle.p3_networks.proofs.tiles.SpreadTileLayersChunkWork.on_chunk.Goals as goal

-- what comes after a row ends within all rows
row_room : (first count q w len : ℕ) → q < count → (first + count) * w ≤ len → (first + q) * w + w ≤ len
row_room first count q w len below room =
    let more : suc (first + q) * w ≤ (first + count) * w = mul-le-mul_right w (omega (arith, below)) in
    let next : suc (first + q) * w ≡ (first + q) * w + w = omega arith in
    omega (arith, more, next, room)

place_below : (first count q len : ℕ) → q < count → first + count ≤ len → first + q < len
place_below first count q len below room = omega (arith, below, room)

copies_within : (tile count copies rows len : ℕ) → count * copies ≡ rows → (tile + 1) * rows ≤ len → (tile * count + count) * copies ≤ len
copies_within tile count copies rows len is room =
    let all : (tile * count + count) * copies ≡ (tile + 1) * (count * copies) = omega arith in
    omega (arith, all, ap (λ n. (tile + 1) * n) is, room)

-- the products of the copies and of the layers
copies_counted : (layers n len out before middle after : ℕ) → out ≡ len → len ≡ n → middle ≤ before + n
    → 2 * after ≤ 2 * middle + 1 * (layers * out) → 2 * after ≤ 2 * before + (layers + 2) * len
copies_counted layers n len out before middle after same full made done =
    let more : (layers + 2) * len ≡ layers * len + 2 * len = omega arith in
    omega (arith, ap (λ n. layers * n) same, full, made, done, more)

cells_of_tile : (count copies rows w : ℕ) → count * copies ≡ rows → rows * w ≡ count * (copies * w)
cells_of_tile count copies rows w is = ap (λ n. n * w) (sym is) ∙ omega arith

pub overflow_shl-copies : goal.overflow_shl-copies
overflow_shl-copies g c = lt_of_le_of_lt c.requires.1.0 (chunk_digits c.args.self.now.log_rows c.args.number c.requires.0.fits_u64)

pub overflow_shl-count : goal.overflow_shl-count
overflow_shl-count g c =
    lt_of_le_of_lt (sub-le c.args.self.now.log_rows c.args.self.now.coefficients.added_bits)
    (chunk_digits c.args.self.now.log_rows c.args.number c.requires.0.fits_u64)

pub on_each_chunk-requires-clause-whole : goal.on_each_chunk-requires-clause-whole
on_each_chunk-requires-clause-whole g c =
    let it = c.args.self.now in
    let tile = c.args.number in
    let r = it.log_rows in
    let a = it.coefficients.added_bits in
    let chunk = c.requires.0 in
    let added = c.requires.1.0 in
    let sizes = spread_sizes r a (chunk_digits r tile chunk.fits_u64) added in
    let count = one_shifted (r - a) in
    let copies = one_shifted a in
    let whole = chunk.size ∙ cells_of_tile count copies (2 ^ r) it.width sizes.rows in
    let size_is = block_size (length c.args.chunk.now) count (copies * it.width) sizes.nonzero whole in
    whole ∙ ap (λ n. count * n) (sym size_is)

pub on_each_chunk-requires-clause-accepts : goal.on_each_chunk-requires-clause-accepts
on_each_chunk-requires-clause-accepts g c n below =
    let it = c.args.self.now in
    let tile = c.args.number in
    let r = it.log_rows in
    let a = it.coefficients.added_bits in
    let chunk = c.requires.0 in
    let added = c.requires.1.0 in
    let rows = c.requires.1.1.0 in
    let weights = c.requires.1.1.1.0 in
    let sizes = spread_sizes r a (chunk_digits r tile chunk.fits_u64) added in
    let count = one_shifted (r - a) in
    let copies = one_shifted a in
    let whole = chunk.size ∙ cells_of_tile count copies (2 ^ r) it.width sizes.rows in
    let size_is = block_size (length c.args.chunk.now) count (copies * it.width) sizes.nonzero whole in
    let twice = copies_within tile count copies (2 ^ r) _ sizes.rows chunk.enough in
    let within : (tile * count + count) * it.width ≤ length it.coefficients.rows.now =
    subst (λ (n : ℕ). (tile * n + n) * it.width ≤ length it.coefficients.rows.now) (sym sizes.count_is) rows in
    let few : tile * count + count ≤ length it.coefficients.weights.now =
    subst (λ (n : ℕ). tile * n + n ≤ length it.coefficients.weights.now) (sym sizes.count_is) weights in (
      sizes.some_copies,
      size_is,
      row_room (tile * count) count n it.width _ below within,
      place_below (tile * count) count n _ below few,
      row_room (tile * count) count n copies _ below twice,
    )

pub layers_of_chunk-requires-clause-below : goal.layers_of_chunk-requires-clause-below
layers_of_chunk-requires-clause-below g c = c.requires.1.0

pub layers_of_chunk-requires-clause-chunk : goal.layers_of_chunk-requires-clause-chunk
layers_of_chunk-requires-clause-chunk g c =
    let chunk = c.requires.0 in
    record { width = chunk.width; fits_u64 = chunk.fits_u64; enough = chunk.enough; size = c.on_each_chunk.auto.values ∙ chunk.size }

pub layers_of_chunk-requires-clause-first : goal.layers_of_chunk-requires-clause-first
layers_of_chunk-requires-clause-first g c = c.requires.1.1.1.1

-- The rows of the tile, spread, are the cells at its first layer: each entry is one that was asked of all. Its layers lead on from there.
pub returns : goal.returns
returns g c =
    let field = g.F.Valued in
    let it = c.args.self.now in
    let tile = c.args.number in
    let a = it.coefficients.added_bits in
    let r = it.log_rows in
    let w = it.width in
    let chunk = c.requires.0 in let added = c.requires.1.0 in
    let sizes = spread_sizes r a (chunk_digits r tile chunk.fits_u64) added in
    let count = one_shifted (r - a) in
    let copies = one_shifted a in
    let out = c.on_each_chunk.new.values in
    let size = length c.args.chunk.now / count in
    let whole = chunk.size ∙ cells_of_tile count copies (2 ^ r) w sizes.rows in
    let size_is = block_size (length c.args.chunk.now) count (copies * w) sizes.nonzero whole in
    let made_all = turns_halved count count size c.args.products.now c.on_each_chunk.new.products refl c.on_each_chunk.ensures.cost in
    let cells_all = whole ∙ ap (λ n. count * n) (sym size_is) in
    let len : length out ≡ length c.args.chunk.now = c.on_each_chunk.auto.values in
    let made = λ (n q t j : ℕ). field.ring.mul (field.value (get_or it.coefficients.rows.now (q * w + j) field.zero))
    (field.ring.mul (field.value (get_or it.coefficients.weights.now q field.zero))
    (power field.ring (field.value (get_or it.twiddles.now (q * (n / 2)) field.zero)) t)) in
    record {
      chunk = λ k cells layers room are.
          subst (λ (n : ℕ). HoldsCells field.value field.zero (tile * n) (cells r) c.layers_of_chunk.new.values) len
          (subst (λ (e : ℕ). HoldsCells field.value field.zero (tile * length out) (cells e) c.layers_of_chunk.new.values) (add-sub_of_le added)
          (c.layers_of_chunk.ensures.cells.taken k cells layers room
          (subst (λ (e : ℕ). HoldsCells field.value field.zero (tile * length out) (cells e) out) (sym (add-zero a))
          (spread_held field.value field.zero (cells a) (made copies) tile count copies (tile * count + count) w out chunk.width
          (len ∙ chunk.size ∙ cells_of_tile count copies (2 ^ r) w sizes.rows) (le_refl (tile * count + count)) sizes.some_copies
          (subst (λ (n : ℕ). (q t j : ℕ) → q < tile * count + count → t < n → j < w → cells a ((q * n + t) * w + j) ≡ made n q t j) (sym sizes.copies_is)
          (subst (λ (n : ℕ). (q t j : ℕ) → q < tile * n + n → t < 2 ^ a → j < w → cells a ((q * 2 ^ a + t) * w + j) ≡
          made (2 ^ a) q t j) (sym sizes.count_is) are))
          (λ q t j below copy column. ap field.value (sym (row_at field.zero size copies w q t j out size_is copy
          column)) ∙ c.on_each_chunk.ensures.chunks q below t j copy column)))));
      cost = record {
        grows = omega (arith, made_all.grows, c.layers_of_chunk.ensures.cost.grows);
        cost = copies_counted (r - a) (count * size) _ _ _ _ _ len cells_all made_all.cost c.layers_of_chunk.ensures.cost.cost;
      };
    }
