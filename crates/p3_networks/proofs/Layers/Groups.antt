-- Layers in groups: the sizes of a piece, and how a group goes from layer to layer and from piece to piece.
use Rattle.p3_networks.proofs.Names.{◌≡◌, ℕ, ◌+◌, ◌*◌, ◌-◌, ◌/◌, ◌%◌, ◌<◌, ◌≤◌, ◌^◌, List, length, get_or, refl, sym, ap, ap₂, ◌∙◌, subst, arith, lit≤, min}
use Rattle.p3_networks.proofs.Names.{⊎_elim, inl, inr, div-le_self, mul-le-mul, mul-le-mul_left, mul-le-mul_right, pow-le-pow_right, cases_lt, div-add-mod'}
use Rattle.p3_networks.proofs.Names.{div_below, mod_below, one_shl, pow-add, pow_pos, log_lt, RisesAtMost, AreLayersInOrder, HoldsColumns, IsGroupChunk}
use Rattle.p3_networks.proofs.Names.{TakesColumns, cells_of, layer_of, group_end, group_of, HoldsCells, IsLayer}
use Rattle.p3_networks.proofs.Layers.Blocks.{halves_whole, row_below}
use Rattle.p3_networks.proofs.Layers.Chunks.{chunk_sizes}
use Rattle.p3_networks.proofs.Layers.Shifts.{one_shifted}
use Rattle.p3_networks.specs.declared.groups.Order.{Order}
use Rattle.p3_networks.specs.declared.groups.Order.TheVariants.{LargestFirst, SmallestFirst}

-- the sizes of layer e of a group on a chunk, as a program has them by shifts
pub record PieceSizes (from to e number w half blocks part : ℕ) : Type 0 where
  pub digits : to < 64
  pub part_is : part ≡ 2 ^ from * w
  pub some_blocks : 1 ≤ blocks
  pub half_cells : half * part ≡ 2 ^ e * w
  pub rows : blocks * (2 * half) ≡ 2 ^ (to - from)
  pub cells : 2 ^ to * w ≡ blocks * (2 * (half * part))
  pub numbers : number * blocks + blocks ≡ (number + 1) * 2 ^ (to - 1 - e)
  pub blocks_is : blocks ≡ 2 ^ (to - 1 - e)
  pub room : number * blocks + blocks < 2 ^ 64

pub piece_sizes : (from to e number w : ℕ) → from ≤ e → e < to → (number + 1) * 2 ^ to < 2 ^ 64
    → PieceSizes from to e number w (one_shifted (e - from)) (one_shifted (to - 1 - e)) (one_shifted from * w)
piece_sizes from to e number w first last small =
    let chunk = chunk_sizes to e number last small in
    let half : one_shifted (e - from) ≡ 2 ^ (e - from) = one_shl (e - from) 64 (omega (arith, last, chunk.digits)) in
    let part : one_shifted from ≡ 2 ^ from = one_shl from 64 (omega (arith, first, last, chunk.digits)) in
    let both : e - from + from ≡ e = omega (arith, first) in
    let left : to - from - 1 - (e - from) ≡ to - 1 - e = omega (arith, first, last) in
    let joined : 2 ^ (e - from) * 2 ^ from ≡ 2 ^ e = sym (pow-add 2 (e - from) from) ∙ ap (λ n. 2 ^ n) both in
    let cells : one_shifted (e - from) * (one_shifted from * w) ≡ 2 ^ e * w =
    ap₂ (λ h p. h * (p * w)) half part
    ∙ (let assoc : 2 ^ (e - from) * (2 ^ from * w) ≡ 2 ^ (e - from) * 2 ^ from * w = omega arith in assoc)
    ∙ ap (λ n. n * w) joined in
    record {
      digits = chunk.digits;
      part_is = ap (λ n. n * w) part;
      some_blocks = chunk.some_blocks;
      half_cells = cells;
      rows =
          ap₂ (λ b h. b * (2 * h)) chunk.blocks_is half ∙ ap (λ n. 2 ^ n * (2 * 2 ^ (e - from))) (sym left)
          ∙ halves_whole (to - from) (e - from) (omega (arith, first, last));
      cells =
          ap (λ n. n * w) (sym (halves_whole to e last))
          ∙ (let spread : 2 ^ (to - 1 - e) * (2 * 2 ^ e) * w ≡ 2 ^ (to - 1 - e) * (2 * (2 ^ e * w)) = omega arith in
          spread)
          ∙ sym (ap₂ (λ b n. b * (2 * n)) chunk.blocks_is cells);
      numbers = chunk.numbers;
      blocks_is = chunk.blocks_is;
      room = chunk.room;
    }

-- and of the group: a part, which is an eighth, a quarter or a half of a chunk, or the whole
pub record PartSizes (from to number w part : ℕ) : Type 0 where
  pub digits : from < 64
  pub part_is : part ≡ 2 ^ from * w
  pub nonzero : 1 ≤ w → 1 ≤ part
  pub within : (len : ℕ) → len ≡ 2 ^ to * w → (2 ^ from * w ≤ len) × (part ≤ len)
  pub rows : 2 ^ to * w ≡ 2 ^ (to - from) * (2 ^ from * w)

pub part_sizes : (from to number w : ℕ) → from ≤ to → (number + 1) * 2 ^ to < 2 ^ 64 → PartSizes from to number w (one_shifted from * w)
part_sizes from to number w order small =
    let some : 2 ^ to ≤ (number + 1) * 2 ^ to = let spread : (number + 1) * 2 ^ to ≡ number * 2 ^ to + 2 ^ to = omega arith in omega (arith, spread) in
    let digits : to < 64 = log_lt to 64 (omega (arith, small, some)) in
    let below : from < 64 = omega (arith, digits, order) in
    let both : to - from + from ≡ to = omega (arith, order) in
    let joined : 2 ^ (to - from) * 2 ^ from ≡ 2 ^ to = sym (pow-add 2 (to - from) from) ∙ ap (λ n. 2 ^ n) both in
    record {
      digits = below;
      part_is = ap (λ n. n * w) (one_shl from 64 below);
      nonzero = λ wide. let one : 1 * 1 ≤ 2 ^ from * w = mul-le-mul (pow_pos from) wide in omega (arith, one, ap (λ n. n * w) (one_shl from 64 below));
      within = λ len whole.
          let room : 2 ^ from * w ≤ 2 ^ to * w = mul-le-mul_right w (pow-le-pow_right {n = 2} (lit≤ tt) order) in
          (omega (arith, room, whole), omega (arith, room, whole, ap (λ n. n * w) (one_shl from 64 below)));
      rows = ap (λ n. n * w) (sym joined) ∙ omega arith;
    }

pub group_sizes : {w from to cells number n : ℕ} {has : ℕ → Type 0} → IsGroupChunk w from to cells number has n
    → PartSizes from to number w (one_shifted from * w)
group_sizes {w} {from} {to} {cells} {number} group = part_sizes from to number w group.order group.fits_u64

-- the rule has the blocks of a chunk
pub block_there : (top e number b : ℕ) → e < top → b < (number + 1) * 2 ^ (top - 1 - e) → 2 * b < (number + 1) * 2 ^ top
block_there top e number b below inside =
    let all : (number + 1) * 2 ^ top ≡ 2 * ((number + 1) * 2 ^ (top - 1 - e) * 2 ^ e) =
    ap (λ n. (number + 1) * n) (sym (halves_whole top e below))
    ∙ (let spread : (number + 1) * (2 ^ (top - 1 - e) * (2 * 2 ^ e))
    ≡ 2 * ((number + 1) * 2 ^ (top - 1 - e) * 2 ^ e) =
    omega arith in
    spread) in
    let some : (number + 1) * 2 ^ (top - 1 - e) * 1 ≤ (number + 1) * 2 ^ (top - 1 - e) * 2 ^ e =
    mul-le-mul_left ((number + 1) * 2 ^ (top - 1 - e)) (pow_pos e) in
    omega (arith, all, some, inside)

-- each layer of a group is one of those that lead through the cells
pub layer_in_order : {A : Type 0} (order : Order) (k w from to done : ℕ) (near far : ℕ → A → A → A) (cells : ℕ → ℕ → A)
    → AreLayersInOrder order k w near far cells → done < to - from → to ≤ k
    → IsLayer (2 ^ (k - 1 - layer_of order from to done)) (2 ^ layer_of order from to done * w) (λ b i. near b)
    (λ b i. far b) (cells (cells_of order from to done)) (cells (cells_of order from to (done + 1)))
layer_in_order LargestFirst k w from to done near far cells layers below within =
    let e = to - 1 - done in
    let before : e + 1 ≡ to - done = omega (arith, below) in
    let after : e ≡ to - (done + 1) = omega arith in
    subst (λ (m : ℕ). IsLayer (2 ^ (k - 1 - e)) (2 ^ e * w) (λ b i. near b) (λ b i. far b) (cells m) (cells (to - (done + 1)))) before
    (subst (λ (m : ℕ). IsLayer (2 ^ (k - 1 - e)) (2 ^ e * w) (λ b i. near b) (λ b i. far b) (cells (e + 1)) (cells m)) after
    (λ b p. record {
      near_cell = λ i q. layers.near_cell e b i (omega (arith, below, within)) p q;
      far_cell = λ i q.
          layers.far_cell e b i (omega (arith, below, within)) p q;
    }))
layer_in_order SmallestFirst k w from to done near far cells layers below within =
    let e = from + done in
    let after : e + 1 ≡ from + (done + 1) = omega arith in
    subst (λ (m : ℕ). IsLayer (2 ^ (k - 1 - e)) (2 ^ e * w) (λ b i. near b) (λ b i. far b) (cells e) (cells m)) after
    (λ b p. record {
      near_cell = λ i q. layers.near_cell e b i (omega (arith, below, within)) p q;
      far_cell = λ i q. layers.far_cell e b i (omega (arith, below, within)) p q;
    })

module _ {A T : Type 0} (value : T → A) (d : T) (at end : ℕ) where
  pub columns_none : (part rows first : ℕ) (cells : ℕ → A) (xs : List T)
      → HoldsColumns value d part rows first at end cells xs → TakesColumns value d part rows first at end cells xs xs
  columns_none part rows first cells xs holds = record { taken = holds; kept = λ r j p q o. refl }

  -- one layer more; the program has the sizes in variables of its own
  pub columns_next : (part part_1 rows rows_1 first first_1 : ℕ) (before after : ℕ → A) (old now new : List T) → part_1 ≡ part → rows_1 ≡ rows → first_1 ≡ first
      → (HoldsColumns value d part_1 rows_1 first_1 at end before now → TakesColumns value d part_1 rows_1 first_1 at end after now new)
      → TakesColumns value d part rows first at end before old now → TakesColumns value d part rows first at end after old new
  columns_next part part_1 rows rows_1 first first_1 before after old now new part_is rows_is first_is layer so_far =
      let more = subst (λ (p : ℕ). HoldsColumns value d p rows first at end before now → TakesColumns value d p rows first at end after now new) part_is
      (subst (λ (n : ℕ). HoldsColumns value d part_1 n first at end before now → TakesColumns value d part_1 n first at end after now new) rows_is
      (subst (λ (n : ℕ). HoldsColumns value d part_1 rows_1 n at end before now → TakesColumns value d part_1 rows_1 n
      at end after now new) first_is layer)) so_far.taken in
      record { taken = more.taken; kept = λ r j p q o. more.kept r j p q o ∙ so_far.kept r j p q o }

-- what a layer counts on a piece of n cells of each part
pub piece_layer_counted : (cost done rows blocks half n before now after : ℕ) → blocks * (2 * half) ≡ rows
    → RisesAtMost (cost * (done * (rows * n))) (2 * before) (2 * now) → RisesAtMost (cost * (blocks * (half * n))) now after
    → RisesAtMost (cost * ((done + 1) * (rows * n))) (2 * before) (2 * after)
piece_layer_counted cost done rows blocks half n before now after is so_far layer =
    let all : rows * n ≡ 2 * (blocks * (half * n)) =
    ap (λ m. m * n) (sym is)
    ∙ (let spread : blocks * (2 * half) * n ≡ 2 * (blocks * (half * n)) = omega arith in spread) in
    let each : cost * (rows * n) ≡ 2 * (cost * (blocks * (half * n))) =
    ap (λ m. cost * m) all
    ∙ (let swap : cost * (2 * (blocks * (half * n))) ≡ 2 * (cost * (blocks * (half * n))) = omega arith in swap) in
    let next : cost * ((done + 1) * (rows * n)) ≡ cost * (done * (rows * n)) + cost * (rows * n) = omega arith in
    record { grows = omega (arith, so_far.grows, layer.grows); cost = omega (arith, so_far.cost, layer.cost, each, next) }

-- piece p of a part, of which the program has the size in a variable of its own: it begins and ends within it, and behind it comes the next
pub record Piece (p piece part rest : ℕ) : Type 0 where
  pub below : p * piece < part
  pub inside : p * piece + rest ≤ part
  pub within : p * piece + rest ≤ (p + 1) * piece
  pub last : (j : ℕ) → j < part → j < (p + 1) * piece → j < p * piece + rest
  pub here : p * piece - (p * piece - part) ≡ p * piece
  pub there : (p + 1) * piece - ((p + 1) * piece - part) ≡ p * piece + rest

pub piece_start : (p piece part : ℕ) → 1 ≤ piece → 1 ≤ part → p < (part - 1) / piece + 1 → p * piece < part
piece_start p piece part some full below =
    let less : p * piece ≤ (part - 1) / piece * piece = mul-le-mul_right piece (let l : p ≤ (part - 1) / piece = omega (arith, below) in l) in
    let all = div-add-mod' (part - 1) piece in
    omega (arith, less, all, full)

pub piece_of : (p piece part_1 part rest : ℕ) → part_1 ≡ part → 1 ≤ piece → 1 ≤ part_1 → p < (part_1 - 1) / piece + 1
    → rest ≡ min piece (part_1 - p * piece) → Piece p piece part rest
piece_of p piece part_1 part rest is some full turn least =
    let start = piece_start p piece part_1 some full turn in
    let next : (p + 1) * piece ≡ p * piece + piece = omega arith in
    record {
      below = omega (arith, start, is);
      inside = omega (arith, start, is, least);
      within = omega (arith, next, least);
      last = λ j column among. omega (arith, column, among, next, least, is);
      here = omega (arith, start, is);
      there = omega (arith, next, start, least, is);
    }

-- there are no more pieces than cells, and all pieces cover the part
pub pieces_few : (piece part : ℕ) → 1 ≤ part → (part - 1) / piece + 1 ≤ part
pieces_few piece part full = omega (arith, div-le_self (part - 1) piece, full)

pub pieces_cover : (p piece part_1 part : ℕ) → part_1 ≡ part → 1 ≤ piece → (part_1 - 1) / piece + 1 ≤ p → part ≤ p * piece
pieces_cover p piece part_1 part is some end =
    let all = div-add-mod' (part_1 - 1) piece in
    let rest = mod_below (part_1 - 1) piece some in
    let next : ((part_1 - 1) / piece + 1) * piece ≡ (part_1 - 1) / piece * piece + piece = omega arith in
    omega (arith, all, rest, next, is, mul-le-mul_right piece end)

pub cover_counted : (part all : ℕ) → part ≤ all → all - (all - part) ≡ part
cover_counted part all cover = omega (arith, cover)

module _ {A T : Type 0} (value : T → A) (d : T) (part rows first : ℕ) where
  -- the columns of a piece are as they were at first
  pub piece_held : (at end : ℕ) (from to : ℕ → A) (old now : List T) → length old ≡ rows * part
      → HoldsCells value d first from old → TakesColumns value d part rows first 0 at to old now
      → HoldsColumns value d part rows first at end from now
  piece_held at end from to old now size holds so_far r j row column p q =
      ap value (so_far.kept r j row column (inr p))
      ∙ holds (r * part + j) (omega (arith, row_below r j part rows row column, size))

  -- one piece more
  pub pieces_next : (at end all : ℕ) (to : ℕ → A) (old now new : List T) → at ≤ end → end ≤ all → ((j : ℕ) → j < part → j < all → j < end)
      → TakesColumns value d part rows first 0 at to old now → TakesColumns value d part rows first at end to now new →
      TakesColumns value d part rows first 0 all to old new
  pieces_next at end all to old now new order within last so_far piece = record {
    taken = λ r j row column p q.
        ⊎_elim
        (λ before. ap value (piece.kept r j row column (inl before)) ∙ so_far.taken r j row column p before)
        (λ behind. piece.taken r j row column behind (last j column q))
        (cases_lt j at);
    kept = λ r j row column o.
        let behind : end ≤ j = ⊎_elim (λ none. absurd (omega (arith, none))) (λ behind. omega (arith, behind, within)) o in
        piece.kept r j row column (inr behind) ∙ so_far.kept r j row column (inr (omega (arith, behind, order)));
  }

  -- all pieces
  pub pieces_all : (all : ℕ) (to : ℕ → A) (old now : List T) → 0 < part → part ≤ all → length now ≡ rows * part
      → TakesColumns value d part rows first 0 all to old now → HoldsCells value d first to now
  pieces_all all to old now some cover size taken i inside =
      let column : i % part < part = mod_below i part some in
      let back : i / part * part + i % part ≡ i = div-add-mod' i part in
      ap (λ n. value (get_or now n d)) (sym back)
      ∙ taken.taken (i / part) (i % part) (div_below i part rows some (omega (arith, inside, size))) column (omega arith) (omega (arith, column, cover))
      ∙ ap (λ n. to (first + n)) back

pub pieces_counted : (cost layers rows at end before now after : ℕ) → at ≤ end
    → RisesAtMost (cost * (layers * (rows * at))) before now → RisesAtMost (cost * (layers * (rows * (end - at)))) now after
    → RisesAtMost (cost * (layers * (rows * end))) before after
pieces_counted cost layers rows at end before now after order so_far piece =
    let both : cost * (layers * (rows * (at + (end - at)))) ≡ cost * (layers * (rows * at)) + cost * (layers * (rows * (end - at))) = omega arith in
    let is : at + (end - at) ≡ end = omega (arith, order) in
    let all = ap (λ n. cost * (layers * (rows * n))) is in
    record { grows = omega (arith, so_far.grows, piece.grows); cost = omega (arith, so_far.cost, piece.cost, both, all) }

-- which cells stand when so many groups are done
abbrev pub stand : Order → ℕ → ℕ → ℕ → ℕ → ℕ
stand LargestFirst r k count done = group_end r k done
stand SmallestFirst r k count done = group_end r k (count - done)

-- and how many layers these groups have
abbrev pub covered : Order → ℕ → ℕ → ℕ → ℕ → ℕ
covered LargestFirst r k count done = k - group_end r k done
covered SmallestFirst r k count done = group_end r k (count - done) - r

pub group_first : (order : Order) (r k count done : ℕ) → done < count
    → stand order r k count done ≡ cells_of order (group_end r k (group_of order count done + 1)) (group_end r k (group_of order count done)) 0
group_first LargestFirst r k count done below = let e : r + (k - r - 3 * done) ≡ r + (k - r - 3 * done) - 0 = omega arith in e
group_first SmallestFirst r k count done below =
    let e : r + (k - r - 3 * (count - done)) ≡ r + (k - r - 3 * (count - 1 - done + 1)) + 0 = omega (arith, below) in e

pub group_last : (order : Order) (r k count done : ℕ) → done < count
    → cells_of order (group_end r k (group_of order count done + 1)) (group_end r k (group_of order count done))
    (group_end r k (group_of order count done) - group_end r k (group_of order count done + 1))
    ≡ stand order r k count (done + 1)
group_last LargestFirst r k count done below =
    let e : r + (k - r - 3 * done) - (r + (k - r - 3 * done) - (r + (k - r - 3 * (done + 1))))
    ≡ r + (k - r - 3 * (done + 1)) =
    omega arith in
    e
group_last SmallestFirst r k count done below =
    let e : r + (k - r - 3 * (count - 1 - done + 1))
    + (r + (k - r - 3 * (count - 1 - done)) - (r + (k - r - 3 * (count - 1 - done + 1))))
    ≡ r + (k - r - 3 * (count - (done + 1))) = omega (arith, below) in e

pub stand_first : (order : Order) (r k count : ℕ) → r ≤ k → k - r ≤ 3 * count → cells_of order r k 0 ≡ stand order r k count 0
stand_first LargestFirst r k count order enough = let e : k - 0 ≡ r + (k - r - 3 * 0) = omega (arith, order) in e
stand_first SmallestFirst r k count order enough = let e : r + 0 ≡ r + (k - r - 3 * (count - 0)) = omega (arith, enough) in e

pub stand_last : (order : Order) (r k count : ℕ) → r ≤ k → k - r ≤ 3 * count → stand order r k count count ≡ cells_of order r k (k - r)
stand_last LargestFirst r k count order enough = let e : r + (k - r - 3 * count) ≡ k - (k - r) = omega (arith, order, enough) in e
stand_last SmallestFirst r k count order enough = let e : r + (k - r - 3 * (count - count)) ≡ r + (k - r) = omega arith in e

pub covered_first : (order : Order) (r k count : ℕ) → r ≤ k → k - r ≤ 3 * count → covered order r k count 0 ≡ 0
covered_first LargestFirst r k count order enough = let e : k - (r + (k - r - 3 * 0)) ≡ 0 = omega (arith, order) in e
covered_first SmallestFirst r k count order enough = let e : r + (k - r - 3 * (count - 0)) - r ≡ 0 = omega (arith, enough) in e

pub covered_next : (order : Order) (r k count done : ℕ) → r ≤ k → done < count
    → covered order r k count (done + 1)
    ≡ covered order r k count done
    + (group_end r k (group_of order count done) - group_end r k (group_of order count done + 1))
covered_next LargestFirst r k count done order below =
    let e : k - (r + (k - r - 3 * (done + 1))) ≡ k - (r + (k - r - 3 * done)) + (r + (k - r - 3 * done) - (r + (k - r - 3 * (done + 1)))) =
    omega (arith, order) in e
covered_next SmallestFirst r k count done order below =
    let e : r + (k - r - 3 * (count - (done + 1))) - r
    ≡ r + (k - r - 3 * (count - done)) - r + (r + (k - r - 3 * (count - 1 - done)) - (r + (k - r - 3 * (count - 1 - done + 1)))) =
    omega (arith, order, below) in e

pub covered_last : (order : Order) (r k count : ℕ) → r ≤ k → k - r ≤ 3 * count → covered order r k count count ≡ k - r
covered_last LargestFirst r k count order enough = let e : k - (r + (k - r - 3 * count)) ≡ k - r = omega (arith, order, enough) in e
covered_last SmallestFirst r k count order enough = let e : r + (k - r - 3 * (count - count)) - r ≡ k - r = omega arith in e

-- layers more, each of which counts so much
pub layers_more : (cost done more all size before now after : ℕ) → all ≡ done + more
    → RisesAtMost (cost * (done * size)) before now → RisesAtMost (cost * (more * size)) now after → RisesAtMost (cost * (all * size)) before after
layers_more cost done more all size before now after is so_far group =
    let both : cost * ((done + more) * size) ≡ cost * (done * size) + cost * (more * size) = omega arith in
    record { grows = omega (arith, so_far.grows, group.grows); cost = omega (arith, so_far.cost, group.cost, both, ap (λ n. cost * (n * size)) is) }
