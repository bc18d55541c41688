-- Chunks of rows one after another, each done by itself.
use Rattle.p3_networks.proofs.Names.{◌≡◌, ℕ, suc, ◌+◌, ◌*◌, ◌-◌, ◌/◌, ◌%◌, ◌<◌, ◌≤◌, ◌^◌, List, length, get_or, sym, ap, ap₂, ◌∙◌, arith, lit≤, mul-le-mul}
use Rattle.p3_networks.proofs.Names.{mul-le-mul_right, pow-le-pow_right, one_shl, pow-add, pow_pos, div-add-mod', div_below, mod_below, chunk_of}
use Rattle.p3_networks.proofs.Names.{AreLayersInOrder, TakesCells, HoldsCells}
use Rattle.p3_networks.proofs.Layers.Halves.{block_room, block_size}
use Rattle.p3_networks.proofs.Rows.EachChunk.{cells_of_chunks}
use Rattle.p3_networks.proofs.Layers.Shifts.{one_shifted}
use Rattle.p3_networks.specs.declared.groups.Order.{Order}

-- the sizes of tiles of 2 ^ r of the 2 ^ k rows, as a program has them
pub record TileSizes (k r w tiles size len : ℕ) : Type 0 where
  pub tiles_is : tiles ≡ 2 ^ (k - r)
  pub nonzero : 1 ≤ tiles
  pub size_is : size ≡ 2 ^ r * w
  pub whole : len ≡ tiles * size
  pub rows : tiles * 2 ^ r ≡ 2 ^ k

pub shifted_sizes : (n k r w len : ℕ) → n < 64 → n + r ≡ k → len ≡ 2 ^ k * w → TileSizes k r w (one_shifted n) (len / one_shifted n) len
shifted_sizes n k r w len small all full =
    let tiles = one_shifted n in
    let is : tiles ≡ 2 ^ n = one_shl n 64 small in
    let some : 1 ≤ tiles = omega (arith, is, pow_pos n) in
    let rows : tiles * 2 ^ r ≡ 2 ^ k = ap (λ n. n * 2 ^ r) is ∙ sym (pow-add 2 n r) ∙ ap (λ n. 2 ^ n) all in
    let whole : len ≡ tiles * (2 ^ r * w) = full ∙ ap (λ n. n * w) (sym rows) ∙ omega arith in
    let size = block_size len tiles (2 ^ r * w) some whole in
    record { tiles_is = is ∙ ap (λ n. 2 ^ n) (omega (arith, all)); nonzero = some; size_is = size; whole = whole ∙ ap (λ n. tiles * n) (sym size); rows = rows }

pub tile_sizes : (k r w len : ℕ) → k < 64 → r ≤ k → len ≡ 2 ^ k * w
    → TileSizes k r w (one_shifted (k - r)) (len / (one_shifted (k - r))) len
tile_sizes k r w len small below full = shifted_sizes (k - r) k r w len (omega (arith, small)) (omega (arith, below)) full

-- the rows of one tile
pub tile_rows : (k r w tiles size len tile : ℕ) → TileSizes k r w tiles size len → tile < tiles → (tile + 1) * 2 ^ r ≤ 2 ^ k
tile_rows k r w tiles size len tile sizes inside =
    let more : suc tile * 2 ^ r ≤ tiles * 2 ^ r = mul-le-mul_right (2 ^ r) inside in
    let next : (tile + 1) * 2 ^ r ≡ suc tile * 2 ^ r = omega arith in
    omega (arith, more, next, sizes.rows)

pub tile_small : (k r w tiles size len tile : ℕ) → k < 64 → TileSizes k r w tiles size len → tile < tiles → (tile + 1) * 2 ^ r < 2 ^ 64
tile_small k r w tiles size len tile small sizes inside =
    let most : 2 ^ k ≤ 2 ^ 63 = pow-le-pow_right {n = 2} (lit≤ tt) (let few : k ≤ 63 = omega (arith, small) in few) in
    omega (arith, tile_rows k r w tiles size len tile sizes inside, most)

pub tile_some : (k r w tiles size len : ℕ) → TileSizes k r w tiles size len → 1 ≤ w → 0 < size
tile_some k r w tiles size len sizes wide = let rows : 1 * 1 ≤ 2 ^ r * w = mul-le-mul (pow_pos r) wide in omega (arith, rows, sizes.size_is)

-- what all tiles cost, by what one costs
pub tiles_cost : (k r w tiles size len each : ℕ) → TileSizes k r w tiles size len → tiles * (each * size) ≡ each * len
tiles_cost k r w tiles size len each sizes =
    let swap : tiles * (each * size) ≡ each * (tiles * size) = omega arith in
    swap ∙ ap (λ n. each * n) (sym sizes.whole)

-- tiles of chunk `number` of 2 ^ k rows, among those of all such chunks
pub tile_rows_of_chunk : (k r w tiles size len number tile : ℕ) → TileSizes k r w tiles size len → tile < tiles
    → (number * tiles + tile + 1) * 2 ^ r ≤ (number + 1) * 2 ^ k
tile_rows_of_chunk k r w tiles size len number tile sizes inside =
    let spread : (number * tiles + tile + 1) * 2 ^ r ≡ number * (tiles * 2 ^ r) + (tile + 1) * 2 ^ r = omega arith in
    let all : number * (tiles * 2 ^ r) ≡ number * 2 ^ k = ap (λ n. number * n) sizes.rows in
    let next : (number + 1) * 2 ^ k ≡ number * 2 ^ k + 2 ^ k = omega arith in
    omega (arith, spread, all, next, tile_rows k r w tiles size len tile sizes inside)

-- the sizes of a tile of rows that are spread: `count` rows, each in `copies`
pub record SpreadSizes (r a copies count : ℕ) : Type 0 where
  pub copies_is : copies ≡ 2 ^ a
  pub count_is : count ≡ 2 ^ (r - a)
  pub some_copies : 1 ≤ copies
  pub nonzero : 1 ≤ count
  pub rows : count * copies ≡ 2 ^ r

pub spread_sizes : (r a : ℕ) → r < 64 → a ≤ r → SpreadSizes r a (one_shifted a) (one_shifted (r - a))
spread_sizes r a small added =
    let copies : one_shifted a ≡ 2 ^ a = one_shl a 64 (omega (arith, small, added)) in
    let count : one_shifted (r - a) ≡ 2 ^ (r - a) = one_shl (r - a) 64 (omega (arith, small)) in
    let part : r - a + a ≡ r = omega (arith, added) in
    record {
      copies_is = copies;
      count_is = count;
      some_copies = omega (arith, copies, pow_pos a);
      nonzero = omega (arith, count, pow_pos (r - a));
      rows = ap₂ (λ m n. m * n) count copies ∙ sym (pow-add 2 (r - a) a) ∙ ap (λ n. 2 ^ n) part;
    }

-- the rows of a tile are some of all
pub spread_room : (k r a w tiles size len tile : ℕ) → a ≤ r → r ≤ k → TileSizes k r w tiles size len → tile < tiles
    → tile * 2 ^ (r - a) + 2 ^ (r - a) ≤ 2 ^ (k - a)
spread_room k r a w tiles size len tile added below sizes inside =
    let parts : k - r + (r - a) ≡ k - a = omega (arith, added, below) in
    let all : tiles * 2 ^ (r - a) ≡ 2 ^ (k - a) = ap (λ n. n * 2 ^ (r - a)) sizes.tiles_is ∙ sym (pow-add 2 (k - r) (r - a)) ∙ ap (λ n. 2 ^ n) parts in
    block_room tile tiles (2 ^ (r - a)) (2 ^ (k - a)) inside (sym all)

-- and a tile holds its cells where each cell of the whole, by row, copy and column, is the one that was made
pub spread_held : {A T : Type 0} (value : T → A) (d : T) (cells : ℕ → A) (made : ℕ → ℕ → ℕ → A)
    (tile count copies all w : ℕ) (out : List T)
    → 0 < w → length out ≡ count * (copies * w)
    → tile * count + count ≤ all → 0 < copies
    → ((q t j : ℕ) → q < all → t < copies → j < w → cells ((q * copies + t) * w + j) ≡ made q t j)
    → ((q t j : ℕ) → q < count → t < copies → j < w → value (get_or out ((q * copies + t) * w + j) d) ≡ made (tile * count + q) t j)
    → HoldsCells value d (tile * length out) cells out
spread_held value d cells made tile count copies all w out wide size room some are holds i inside =
    let u = i / w in
    let j = i % w in
    let q = u / copies in
    let t = u % copies in
    let flat : count * (copies * w) ≡ count * copies * w = omega arith in
    let row : u < count * copies = div_below i w (count * copies) wide (omega (arith, inside, size, flat)) in
    let below : q < count = div_below u copies count some row in
    let copy : t < copies = mod_below u copies some in
    let column : j < w = mod_below i w wide in
    let place : (q * copies + t) * w + j ≡ i = ap (λ n. n * w + j) (div-add-mod' u copies) ∙ div-add-mod' i w in
    let spread : ((tile * count + q) * copies + t) * w + j ≡ tile * (count * (copies * w)) + ((q * copies + t) * w + j) = omega arith in
    ap (λ n. value (get_or out n d)) (sym place) ∙ holds q t j below copy column ∙ sym (are (tile * count + q) t j (omega (arith, below, room)) copy column)
    ∙ ap cells (spread ∙ ap₂ (λ m n. tile * m + n) (sym size) place)

-- where each tile takes the cells that it holds by some layers, so do all tiles
pub tiles_taken : {T A : Type 0} (value_before value : T → A) (d : T) (k r w tiles size : ℕ) (order : Order)
    (near far : ℕ → A → A → A) (from to : ℕ) (cells : ℕ → ℕ → A) (before after : List T)
    → TileSizes k r w tiles size (length before) → 1 ≤ w → length after ≡ length before
    → ((n : ℕ) → n < tiles → TakesCells value_before value d order w r n near far from to (chunk_of size n before) (chunk_of size n after))
    → AreLayersInOrder order k w near far cells → HoldsCells value_before d 0 (cells from) before → HoldsCells value d 0 (cells to) after
tiles_taken value_before value d k r w tiles size order near far from to cells before after sizes wide len each layers =
    cells_of_chunks d size value_before value (cells from) (cells to) 0 tiles (λ n s. n * s) before after
    (tile_some _ _ _ _ _ _ sizes wide) sizes.whole len (λ n. omega arith)
    (λ n below held. (each n below).taken k cells layers (tile_rows _ _ _ _ _ _ n sizes below) held)
