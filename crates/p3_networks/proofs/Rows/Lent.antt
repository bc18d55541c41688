-- Blocks of rows that are lent to a consumer while other rows are still written.
use Rattle.p3_networks.proofs.Names.{◌≡◌, ℕ, zero, suc, ◌+◌, ◌*◌, ◌-◌, ◌/◌, ◌%◌, ◌<◌, ◌≤◌, List, [], ◌∷◌, ◌++◌, length, get_or, map, take, drop, Result, Ok}
use Rattle.p3_networks.proofs.Names.{Err, refl, sym, ap, ap₂, ◌∙◌, subst, arith, rules, add-one, le_of_lt, le_refl, length-append, ⊎_elim, ⊤, mul-div_cancel}
use Rattle.p3_networks.proofs.Names.{mul-le-mul_right, mul-mod_left, cases_lt, FoldsTo-push, append-nil, append_assoc, drop-drop, get_or_append_left}
use Rattle.p3_networks.proofs.Names.{get_or-append_right, places, take-take, All-append, get_or-map-range_with_len, length-map-range_with_len}
use Rattle.p3_networks.proofs.Names.{map-range_with_len_more, take-length, mul-add-lt, AreBlocksOf, IsBlockOf, Run, RunToRefusal, Matrix, image, matrix}
use Rattle.p3_networks.proofs.Names.{RowMajor, starts_differ, list_same, LentInBlocks, slot_block, slot_blocks}
use Rattle.std.specs.List.{range_with_len, between}
use Rattle.std.proofs.lemmas.Slice.{between_is, between-put_mid, take-put_mid_below}
use borrow.Rule.Slice.PartMut.{put_mid}

-- m numbers, and then n more
pub map_joined : {X : Type 0} (f : ℕ → X) (m n : ℕ) → map f (range_with_len 0 m) ++ map (λ q. f (m + q)) (range_with_len 0 n) ≡ map f (range_with_len 0 (m + n))
map_joined f m zero = append-nil (map f (range_with_len 0 m)) ∙ ap (λ k. map f (range_with_len 0 k)) (let e : m ≡ m + 0 = omega arith in e)
map_joined f m (suc n) =
    ap (λ xs. map f (range_with_len 0 m) ++ xs) (ap (λ k. map (λ q. f (m + q)) (range_with_len 0 k)) (sym (add-one n))
    ∙ map-range_with_len_more (λ q. f (m + q)) 0 n n (omega arith))
    ∙ sym (append_assoc (map f (range_with_len 0 m)) (map (λ q. f (m + q)) (range_with_len 0 n)) (f (m + n) ∷ []))
    ∙ ap (λ xs. xs ++ f (m + n) ∷ []) (map_joined f m n)
    ∙ sym (map-range_with_len_more f 0 (m + n) (m + n) (omega arith))
    ∙ ap (λ k. map f (range_with_len 0 k)) (let e : m + n + 1 ≡ m + suc n = omega arith in e)

module _ {T : Type 0} (first b w : ℕ) where
  -- a block depends on the rows up to its end alone
  pub block_kept : (xs ys : List T) (q end : ℕ) → (q + 1) * (b * w) ≤ end → take end xs ≡ take end ys → slot_block first b w xs q ≡ slot_block first b w ys q
  block_kept xs ys q end within same =
      let u = q * b * w in
      let v = q * b * w + b * w in
      let le : v ≤ end = let spread : (q + 1) * (b * w) ≡ q * b * w + b * w = omega arith in omega (arith, within, spread) in
      let part : between u v xs ≡ between u v ys =
      between_is xs u v ∙ ap (drop u) (sym (take-take v end xs le) ∙ ap (take v) same ∙ take-take v end ys le)
      ∙ sym (between_is ys u v) in
      ap (λ (zs : List T). (first + q * b, let m : RowMajor T = record { width = w; values = zs } in m)) part

  pub blocks_kept : (xs ys : List T) (n end : ℕ) → n * (b * w) ≤ end → take end xs ≡ take end ys → slot_blocks first b w xs n ≡ slot_blocks first b w ys n
  blocks_kept xs ys n end within same =
      list_same (slot_block first b w xs) (slot_block first b w ys) n
      (λ q below.
      let l : suc q * (b * w) ≤ n * (b * w) = mul-le-mul_right (b * w) below in
      let next : suc q * (b * w) ≡ (q + 1) * (b * w) = omega arith in
      block_kept xs ys q end (omega (arith, l, next, within)) same)

module _ {C T R : Type 0} (step : C → ℕ → RowMajor T → Result ⊤ R → C → Type 0) where
  -- one more block that was accepted
  pub run_more : (f : ℕ → ℕ × RowMajor T) (n : ℕ) (c d e : C) → Run step c (map f (range_with_len 0 n)) d
      → step d (f n).0 (f n).1 (Ok tt) e → Run step c (map f (range_with_len 0 (n + 1))) e
  run_more f n c d e run accepted = rw (map-range_with_len_more f 0 n n (omega arith)) (FoldsTo-push _ c (map f (range_with_len 0 n)) d (f n) e run accepted)

  -- more blocks that were accepted
  pub run_joined : (xs ys : List (ℕ × RowMajor T)) (c d e : C) → Run step c xs d → Run step d ys e → Run step c (xs ++ ys) e
  run_joined [] ys c d e same run = subst (λ x. Run step x ys e) (sym same) run
  run_joined (x ∷ xs) ys c d e (j, one, more) run = (j, one, run_joined xs ys j d e more run)

  pub refusal_joined : (xs ys : List (ℕ × RowMajor T)) (refused : ℕ × RowMajor T) (refusal : R) (c d e : C)
      → Run step c xs d → RunToRefusal step d ys refused refusal e → RunToRefusal step c (xs ++ ys) refused refusal e
  refusal_joined xs ys refused refusal c d e run stopped = record {
    middle = stopped.middle;
    run = run_joined xs ys c d stopped.middle run stopped.run;
    stop = stopped.stop;
  }

-- one block, which is a whole list, by the consumer's answer
pub lent_once : {T C R : Type 0} (step : C → ℕ → RowMajor T → Result ⊤ R → C → Type 0) (from first b w : ℕ) (rows : List T) (Final : Type 0)
    (c : C) (result : Result ⊤ R) (e : C) → from ≡ first → length rows ≡ b * w → Final
    → step c from (record { width = w; values = rows }) result e
    → LentInBlocks step first b w 1 (λ n. (r : ℕ) → r < n * b → Final) rows c result e
lent_once {T} {C} {R} step from first b w rows Final c result e is size final taken =
    go result (subst (λ (x : ℕ × RowMajor T). step c x.0 x.1 result e) here taken)
  where
    here : (let m : RowMajor T = record { width = w; values = rows } in (from, m)) ≡ slot_block first b w rows 0
    here =
        let end : 0 * b * w + b * w ≡ length rows = omega (arith, size) in
        let start : 0 * b * w ≡ 0 = omega arith in
        let number : from ≡ first + 0 * b = omega (arith, is) in
        ap₂ (λ (x : ℕ) (zs : List T). (x, let m : RowMajor T = record { width = w; values = zs } in m)) number
        (sym (ap₂ (λ u v. between u v rows) start end ∙ between_is rows 0 (length rows) ∙ take-length rows))

    go : (answer : Result ⊤ R) → step c (slot_block first b w rows 0).0 (slot_block first b w rows 0).1 answer e
        → LentInBlocks step first b w 1 (λ n. (r : ℕ) → r < n * b → Final) rows c answer e
    go (Ok x) accepted = (λ _ _. final, (e, accepted, refl))
    go (Err refusal) refused = (0, omega arith, λ _ _. final, record { middle = c; run = refl; stop = refused })

-- a part of a part
part_of_part : {X : Type 0} (xs : List X) (start len u v : ℕ) → v ≤ len → between u v (take len (drop start xs)) ≡ between (start + u) (start + v) xs
part_of_part xs start len u v within =
    let gap : start + v - (start + u) ≡ v - u = omega arith in
    between_is (take len (drop start xs)) u v ∙ ap (drop u) (take-take v len (drop start xs) within) ∙ sym (between_is (drop start xs) u v)
    ∙ ap (take (v - u)) (drop-drop u start xs) ∙ ap (λ n. take n (drop (start + u) xs)) (sym gap)

-- the blocks of a part are blocks of the whole: n blocks stand before it
pub block_of_part : {T : Type 0} (first b w n q start len : ℕ) (whole part : List T) → start ≡ n * (b * w)
    → (q + 1) * (b * w) ≤ len → part ≡ take len (drop start whole)
    → slot_block (first + n * b) b w part q ≡ slot_block first b w whole (n + q)
block_of_part {T} first b w n q start len whole part start_is within is =
    let u = q * b * w in
    let v = q * b * w + b * w in
    let le : v ≤ len = let spread : (q + 1) * (b * w) ≡ q * b * w + b * w = omega arith in omega (arith, within, spread) in
    let low : start + u ≡ (n + q) * b * w = let spread : n * (b * w) + q * b * w ≡ (n + q) * b * w = omega arith in ap (λ x. x + u) start_is ∙ spread in
    let high : start + v ≡ (n + q) * b * w + b * w = let assoc : start + v ≡ start + u + b * w = omega arith in assoc ∙ ap (λ x. x + b * w) low in
    let number : first + n * b + q * b ≡ first + (n + q) * b = omega arith in
    ap₂ (λ (x : ℕ) (zs : List T). (x, let m : RowMajor T = record { width = w; values = zs } in m)) number
    (ap (between u v) is ∙ part_of_part whole start len u v le ∙ ap₂ (λ x y. between x y whole) low high)

-- so m blocks of a part, behind n blocks, make n + m blocks
pub blocks_of_part : {T : Type 0} (first next b w n m start len : ℕ) (whole part : List T) → next ≡ first + n * b
    → start ≡ n * (b * w) → m * (b * w) ≤ len → part ≡ take len (drop start whole)
    → slot_blocks first b w whole n ++ slot_blocks next b w part m ≡ slot_blocks first b w whole (n + m)
blocks_of_part first next b w n m start len whole part next_is start_is within is =
    ap (λ xs. slot_blocks first b w whole n ++ xs)
    (ap (λ f. slot_blocks f b w part m) next_is
    ∙ list_same (slot_block (first + n * b) b w part) (λ q. slot_block first b w whole (n + q)) m
    (λ q below. let le : (q + 1) * (b * w) ≤ m * (b * w) = mul-le-mul_right (b * w) (let l : q + 1 ≤ m = omega (arith, below) in l) in
    block_of_part first b w n q start len whole part start_is (omega (arith, le, within)) is))
    ∙ map_joined (slot_block first b w whole) n m

-- the part that was written
pub written_part : {T : Type 0} (now part : List T) (start whole : ℕ) → start + whole ≤ length now → length part ≡ whole
    → part ≡ take whole (drop start (put_mid start (start + whole - start) now part))
written_part now part start whole room len =
    let gap : start + whole - start ≡ whole = omega arith in
    sym (between-put_mid start (start + whole - start) now part (start + whole) (omega (arith, room))
    (omega (arith, len, gap)))
    ∙ ap (λ n. take n (drop start (put_mid start (start + whole - start) now part))) gap

-- A part of n blocks of b rows is put behind p such parts: the blocks before it stay, and its own come behind them.
module _ {T : Type 0} (first n b w p size : ℕ) (now part : List T) (is : size ≡ n * (b * w))
    (fits : p * size + size ≤ length now) (long : length part ≡ size) where
  abbrev put : List T
  put = put_mid (p * size) (p * size + size - p * size) now part

  start_is : p * size ≡ p * n * (b * w)
  start_is = ap (λ s. p * s) is ∙ omega arith

  number_is : first + p * (n * b) ≡ first + p * n * b
  number_is = omega arith

  blocks_put : (m : ℕ) → m ≤ n → slot_blocks first b w now (p * n) ++ slot_blocks (first + p * (n * b)) b w part m
      ≡ slot_blocks first b w put (p * n + m)
  blocks_put m few =
      let within : m * (b * w) ≤ n * (b * w) = mul-le-mul_right (b * w) few in
      ap (λ xs. xs ++ slot_blocks (first + p * (n * b)) b w part m)
      (blocks_kept first b w now put (p * n) (p * size) (omega (arith, start_is))
      (sym (take-put_mid_below (p * size) (p * size + size - p * size) now part (p * size) (omega arith) (omega (arith, fits)))))
      ∙ blocks_of_part first (first + p * (n * b)) b w (p * n) m (p * size) size put part number_is start_is (omega (arith, within, is))
      (written_part now part (p * size) size fits long)

  block_put : (m : ℕ) → m < n → slot_block (first + p * (n * b)) b w part m
      ≡ slot_block first b w put (p * n + m)
  block_put m below =
      let within : (m + 1) * (b * w) ≤ n * (b * w) = mul-le-mul_right (b * w) (let l : m + 1 ≤ n = omega (arith, below) in l) in
      ap (λ f. slot_block f b w part m) number_is
      ∙ block_of_part first b w (p * n) m (p * size) size put part start_is (omega (arith, within, is)) (written_part now part (p * size) size fits long)

  module _ {C R : Type 0} (step : C → ℕ → RowMajor T → Result ⊤ R → C → Type 0) (c d e : C) where
    pub run_put : Run step c (slot_blocks first b w now (p * n)) d → Run step d (slot_blocks (first + p * (n * b)) b w part n) e
        → Run step c (slot_blocks first b w put ((p + 1) * n)) e
    run_put earlier own =
        let next : p * n + n ≡ (p + 1) * n = omega arith in
        subst (λ blocks. Run step c blocks e) (blocks_put n (le_refl n) ∙ ap (slot_blocks first b w put) next) (run_joined step _ _ c d e earlier own)

    pub refused_put : (refusal : R) (m : ℕ) → m < n → Run step c (slot_blocks first b w now (p * n)) d
        → RunToRefusal step d (slot_blocks (first + p * (n * b)) b w part m) (slot_block (first + p * (n * b)) b w part m) refusal e
        → RunToRefusal step c (slot_blocks first b w put (p * n + m)) (slot_block first b w put (p * n + m)) refusal e
    refused_put refusal m below earlier stopped =
        let next = slot_block (first + p * (n * b)) b w part m in
        subst (λ block. RunToRefusal step c (slot_blocks first b w put (p * n + m)) block refusal e) (block_put m below)
        (subst (λ blocks. RunToRefusal step c blocks next refusal e) (blocks_put m (le_of_lt below))
        (refusal_joined step _ _ next refusal c d e earlier stopped))

module _ {A T : Type 0} (value : T → A) (d : T) (b w : ℕ) (some : 1 ≤ b) (wide : 1 ≤ w) (out : Matrix A) (same_width : out.width ≡ w) where
  -- a block whose rows have the values of those of a matrix
  pub is_block : (first f : ℕ) (rows : List T) (q : ℕ) → first ≡ f * b → (q + 1) * (b * w) ≤ length rows → first + (q + 1) * b ≤ out.height
      → ((i j : ℕ) → i < b → j < w → value (get_or rows ((q * b + i) * w + j) d) ≡ out.entry (first + (q * b + i)) j)
      → IsBlockOf (λ r. image value (matrix d r)) b out (slot_block first b w rows q)
  is_block first f rows q first_is fits room alike =
      let u = q * b * w in
      let gap : u + b * w - u ≡ b * w = omega arith in
      let inside : u + b * w ≤ length rows = let spread : (q + 1) * (b * w) ≡ q * b * w + b * w = omega arith in omega (arith, fits, spread) in
      let size : length (take (u + b * w - u) (drop u rows)) ≡ b * w = search (rules, places) in
      let tall : length (take (u + b * w - u) (drop u rows)) / w ≡ b = ap (λ n. n / w) size ∙ mul-div_cancel b wide in
      let spread : first + q * b ≡ (f + q) * b = ap (λ n. n + q * b) first_is ∙ omega arith in
      let next : (q + 1) * b ≡ q * b + b = omega arith in
      record {
        multiple = ap (λ n. n % b) spread ∙ mul-mod_left (f + q) b;
        within = omega (arith, room, some, next);
        whole = record { width = wide; full = ap (λ n. n * w) tall ∙ sym size };
        rows = record {
          height = tall;
          width = sym same_width;
          alike = λ i j in_rows in_row.
              let low : i < b = omega (arith, in_rows, tall) in
              let below : i * w + j < b * w = omega (arith, mul-add-lt i w j b low in_row) in
              let e : get_or (take (u + b * w - u) (drop u rows)) (i * w + j) d ≡ get_or rows (u + (i * w + j)) d = search (rules, places) in
              let place : u + (i * w + j) ≡ (q * b + i) * w + j = omega arith in
              let number : first + (q * b + i) ≡ first + q * b + i = omega arith in
              ap value (e ∙ ap (λ n. get_or rows n d) place) ∙ alike i j low in_row ∙ ap (λ n. out.entry n j) number;
        };
      }

  -- the first n blocks
  pub are_blocks : (first f : ℕ) (rows : List T) (n : ℕ) → first ≡ f * b → n * (b * w) ≤ length rows → first + n * b ≤ out.height
      → ((r j : ℕ) → r < n * b → j < w → value (get_or rows (r * w + j) d) ≡ out.entry (first + r) j)
      → AreBlocksOf (λ r. image value (matrix d r)) b out (slot_blocks first b w rows n)
  are_blocks first f rows n first_is fits room alike =
      let size = length-map-range_with_len (slot_block first b w rows) 0 n in
      record {
        each = λ q e inside.
            let l : q < n = omega (arith, inside, size) in
            let cells : (q + 1) * (b * w) ≤ n * (b * w) = mul-le-mul_right (b * w) (let le : q + 1 ≤ n = omega (arith, l) in le) in
            let ends : (q + 1) * b ≤ n * b = mul-le-mul_right b (let le : q + 1 ≤ n = omega (arith, l) in le) in
            let next : (q + 1) * b ≡ q * b + b = omega arith in
            subst (IsBlockOf (λ r. image value (matrix d r)) b out) (sym (get_or-map-range_with_len (slot_block first b w rows) 0 n q q e l (omega arith)))
            (is_block first f rows q first_is (omega (arith, cells, fits)) (omega (arith, ends, room))
            (λ i j p l. alike (q * b + i) j (omega (arith, p, ends, next)) l));
        distinct = λ i j e before inside.
            let l : j < n = omega (arith, inside, size) in
            rw (
              get_or-map-range_with_len (slot_block first b w rows) 0 n i i e (omega (arith, l, before))
                  (omega arith),
              get_or-map-range_with_len (slot_block first b w rows) 0 n j j e l (omega arith),
            )
            (λ same. starts_differ i j b some before (omega (arith, same)));
      }

  -- blocks that begin at other rows than those before them
  pub blocks_joined : (xs ys : List (ℕ × RowMajor T))
      → ((i j : ℕ) (e : ℕ × RowMajor T) → i < length xs → j < length ys → (get_or xs i e).0 ≡ (get_or ys j e).0 → ⊥)
      → AreBlocksOf (λ r. image value (matrix d r)) b out xs → AreBlocksOf (λ r. image value (matrix d r)) b out ys →
      AreBlocksOf (λ r. image value (matrix d r)) b out (xs ++ ys)
  blocks_joined xs ys apart first second = record {
    each = All-append (IsBlockOf (λ r. image value (matrix d r)) b out) xs ys first.each second.each;
    distinct = λ i j e before inside same.
        let size = length-append xs ys in
        ⊎_elim
        (λ less.
        first.distinct i j e before less (sym (ap (λ p. p.0) (get_or_append_left xs ys e i
        (omega (arith, less, before)))) ∙ same ∙ ap (λ p. p.0) (get_or_append_left xs ys e j less)))
        (λ more.
        let right : j - length xs < length ys = omega (arith, inside, size, more) in
        let at_j : (get_or (xs ++ ys) j e).0 ≡ (get_or ys (j - length xs) e).0 = ap (λ p. p.0) (get_or-append_right xs ys (length xs) j e refl more) in
        ⊎_elim
        (λ less. apart i (j - length xs) e less right (sym (ap (λ p. p.0) (get_or_append_left xs ys e i less)) ∙ same ∙ at_j))
        (λ both.
        let at_i : (get_or (xs ++ ys) i e).0 ≡ (get_or ys (i - length xs) e).0 = ap (λ p. p.0) (get_or-append_right xs ys (length xs) i e refl both) in
        let order : i - length xs < j - length xs = omega (arith, before, both, more) in
        second.distinct (i - length xs) (j - length xs) e order right (sym at_i ∙ same ∙ at_j))
        (cases_lt i (length xs)))
        (cases_lt j (length xs));
  }
