-- Blocks of two halves, cell by cell: what is said of the rows of the halves is said of the block's cells.
use Rattle.p3_networks.proofs.Names.{◌≡◌, ℕ, suc, ◌+◌, ◌*◌, ◌-◌, ◌/◌, ◌%◌, ◌^◌, ◌++◌, ◌<◌, ◌≤◌, List, length, get_or, take, drop, ap, ap₂, ◌∙◌, arith, rules}
use Rattle.p3_networks.proofs.Names.{subst, places, div-add-mod', div_below, mod_below, one_shl, pow_pos, add-sub_cancel_left, mul-div_cancel, mul-le-mul_right}
use Rattle.p3_networks.proofs.Names.{part_size}
use Rattle.p3_networks.proofs.Layers.Shifts.{one_shifted}

-- a place in a list of two parts
pub in_first : {X : Type 0} (xs ys : List X) (i : ℕ) (d : X) → i < length xs → get_or (xs ++ ys) i d ≡ get_or xs i d
in_first xs ys i d inside = search (rules, places)

pub in_second : {X : Type 0} (xs ys : List X) (n i : ℕ) (d : X) → length xs ≡ n → get_or (xs ++ ys) (n + i) d ≡ get_or ys i d
in_second xs ys n i d size = search (rules, places)

-- an operation on a cell of each half is one on two cells of the whole
pub of_halves : {X Y : Type 0} (op : X → X → Y) (whole low high : List X) (n i : ℕ) (d : X) → low ≡ take n whole → high ≡ drop n whole → i < n
    → op (get_or low i d) (get_or high i d) ≡ op (get_or whole i d) (get_or whole (n + i) d)
of_halves op whole low high n i d first second inside =
    let x : get_or (take n whole) i d ≡ get_or whole i d = search (rules, places) in
    let y : get_or (drop n whole) i d ≡ get_or whole (n + i) d = search (rules, places) in
    ap₂ op (ap (λ xs. get_or xs i d) first ∙ x) (ap (λ xs. get_or xs i d) second ∙ y)

-- both halves of a list have one length
pub halves_same : (low high n all : ℕ) → low ≡ n → high + n ≡ all → all ≡ 2 * n → low ≡ high
halves_same low high n all first second whole = omega (arith, first, second, whole)

-- a list that has each place of a half is as long as it
pub half_within : (n m : ℕ) → 1 ≤ n → ((t : ℕ) → t < n → t < m) → n ≤ m
half_within n m some inside = let last = inside (n - 1) (omega (arith, some)) in omega (arith, last, some)

-- what holds of column j of row t, for each, holds of each cell
pub each_cell : (P : ℕ → ℕ → Type 0) (w h : ℕ) → 0 < w → ((t j : ℕ) → t < h → j < w → P t (t * w + j)) → (i : ℕ) → i < h * w → P (i / w) i
each_cell P w h wide each i inside =
    subst (λ (n : ℕ). P (i / w) n) (div-add-mod' i w) (each (i / w) (i % w) (div_below i w h wide inside) (mod_below i w wide))

-- n blocks of one size
pub block_size : (len n size : ℕ) → 1 ≤ n → len ≡ n * size → len / n ≡ size
block_size len n size some e = let f : len ≡ size * n = omega (arith, e) in ap (λ m. m / n) f ∙ mul-div_cancel size some

pub block_room : (b n size len : ℕ) → b < n → len ≡ n * size → b * size + size ≤ len
block_room b n size len p e = let l : suc b * size ≤ n * size = mul-le-mul_right size p in omega (arith, l, e)

pub part_length : {X : Type 0} (xs : List X) (a size : ℕ) → a + size ≤ length xs → length (take (a + size - a) (drop a xs)) ≡ size
part_length xs a size room = ap (λ n. length (take n (drop a xs))) (add-sub_cancel_left a size) ∙ part_size xs a size room

-- 2 ^ n blocks of one size, as a program has their number by a shift
pub shifted_size : (len n size : ℕ) → n < 64 → len ≡ 2 ^ n * size → len / one_shifted n ≡ size
shifted_size len n size small full =
    let count : one_shifted n ≡ 2 ^ n = one_shl n 64 small in
    block_size len (one_shifted n) size (omega (arith, count, pow_pos n)) (rw count full)
