-- What a caller knows of its consumer after an extension with blocks: that one which never refuses was not refused with, and what those of this crate hold.
use Rattle.p3_matrix.proofs.Names.{◌≡◌, ℕ, zero, suc, ◌+◌, ◌*◌, ◌-◌, ◌/◌, ◌%◌, ◌<◌, ◌≤◌, ◌⊎◌, inl, inr, List, [], ◌∷◌, ◌++◌, length, take, drop, map, true}
use Rattle.p3_matrix.proofs.Names.{false, Result, Ok, Err, refl, sym, ap, ap₂, ◌∙◌, subst, arith, rules, add-one, get_or, ⊎_elim, All, Contains, list_any}
use Rattle.p3_matrix.proofs.Names.{sum_by, ⊤, eqb, cases_lt, add-mul, mul-le-mul_right, div-lt_iff_lt-mul, div-mul-le_self, mul-div_cancel, mul_assoc, suc-mul}
use Rattle.p3_matrix.proofs.Names.{append-nil, append_assoc, ext_get_or, get_or-map, get_or_push, length-append, length-map, places, Contains-get_or}
use Rattle.p3_matrix.proofs.Names.{Any-from_list_any, get_or-map-range_with_len, length-map-range_with_len, sum_by-map-range_with_len_more, sum_by-cons}
use Rattle.p3_matrix.proofs.Names.{IsDistinct-from_AllPairs, length-le_from_distinct_below, div-add-mod', div_below, mod_below, AreBlocksOf, IsBlockOf}
use Rattle.p3_matrix.proofs.Names.{IsPartition, IsPublished, IsRefused, Run, block, first_blocks, Matrix, IsRowMajor, RowMajor, height, rows_from}
use Rattle.p3_matrix.proofs.Names.{with_elements}
use Rattle.std.proofs.lemmas.Bool.Decides.{Decides-eqb, eqb_tells}
use Rattle.std.proofs.Math.Nat.{div-zero, mod-zero}
use Rattle.std.proofs.lemmas.List.Sorted.{All-permutation, Contains-permutation, length_permutation, sum_by-IsPermutation}
use Rattle.p3_matrix.specs.Consumers.{IsCopied, IsCounted, IsRecorded, Limited, Recording}
use Rattle.p3_matrix.proofs.BlockRuns.{block_within}
use Rattle.p3_matrix.proofs.RowMajor.{rows_within}
use Rattle.p3_matrix.specs.declared.blocks.BlockRefused.{BlockRefused}

-- a consumer that refuses no block was not refused with
pub never_refused : {C T R A : Type 0} (step : C → ℕ → RowMajor T → Result ⊤ R → C → Type 0) (may_make : C → Type 0)
    (values : RowMajor T → Matrix A) (b : ℕ) (out : Matrix A) (last : C) (refusal : R)
    → ((c : C) (start : ℕ) (rows : RowMajor T) (r : R) (e : C) → step c start rows (Err r) e → ⊥) → IsRefused step may_make values b out last refusal → ⊥
never_refused step may_make values b out last refusal never x = never x.run.middle x.refused.0 x.refused.1 refusal last x.run.stop

-- an answer is not both
pub ok_is_no_err : {X Y : Type 0} (x : X) (y : Y) → Err y ≡ Ok x → ⊥
ok_is_no_err x y e = search rules

-- where the block begins that was refused
abbrev start_of : Result ⊤ BlockRefused → ℕ
start_of (Ok x) = 0
start_of (Err refusal) = refusal.start

-- the number of a block, by its first row
whole_number : (start b : ℕ) → start % b ≡ 0 → start ≡ start / b * b
whole_number start b multiple = omega (arith, div-add-mod' start b, multiple)

-- a test of equality that answers true
eqb_same : (q n : ℕ) → eqb q n ≡ true → q ≡ n
eqb_same q n told = ⊎_elim (λ same. same.1) (λ other. search (rules, told)) (eqb_tells q n)

-- a number that divides something into parts is not zero
pub divisor : (b h q : ℕ) → q < h / b → 1 ≤ b
divisor zero h q l = absurd (omega (arith, div-zero h))
divisor (suc b) h q l = omega arith

-- a row of a matrix of whole blocks lies in one of them
pub within_blocks : (b h i : ℕ) → h % b ≡ 0 → i < h → i / b < h / b
within_blocks zero h i divides below = absurd (omega (arith, mod-zero h, divides, below))
within_blocks (suc b) h i divides below = (div-lt_iff_lt-mul (omega arith)).1 (omega (arith, div-add-mod' h (suc b), divides, below))

module _ {C T R : Type 0} (step : C → ℕ → RowMajor T → Result ⊤ R → C → Type 0) (IsRight : C → Type 0) (Has : ℕ → C → Type 0) (b : ℕ) (m : RowMajor T)
    (next : (q : ℕ) (c e : C) → q < height m / b → IsRight c → step c (q * b) (rows_from m (q * b) b) (Ok tt) e
    → IsRight e × ((p : ℕ) → p < height m / b → (p ≡ q) ⊎ Has p c → Has p e)) where
  abbrev IsBlock : ℕ × RowMajor T → Type 0
  IsBlock p = (q : ℕ) × (q < height m / b) × (block b m q ≡ p)

  after_blocks : (blocks : List (ℕ × RowMajor T)) (c e : C) → All IsBlock blocks → IsRight c → Run step c blocks e
      → IsRight e × ((p : ℕ) → p < height m / b → Has p c ⊎ Contains blocks (block b m p) → Has p e)
  after_blocks [] c e each right run =
      (subst IsRight run right, λ p below. ⊎_elim (λ has. subst (Has p) run has) (λ inside. absurd (omega (arith, inside.1))))
  after_blocks (x ∷ xs) c e each right (d, told, run) =
      let (q, low, is) : IsBlock x = each 0 x (omega arith) in
      let one = next q c d low right (subst (λ n. step c n.0 n.1 (Ok tt) d) (sym is) told) in
      let rest = after_blocks xs d e (λ i y inside. each (suc i) y (omega (arith, inside))) one.0 run in (
        rest.0,
        λ p below.
            ⊎_elim (λ has. rest.1 p below (inl (one.1 p below (inr has))))
            (λ inside. at q low is one.1 rest.1 p below inside),
      )
    where
      at : (q : ℕ) → q < height m / b → block b m q ≡ x → ((p : ℕ) → p < height m / b → (p ≡ q) ⊎ Has p c → Has p d)
          → ((p : ℕ) → p < height m / b → Has p d ⊎ Contains xs (block b m p) → Has p e)
          → (p : ℕ) → p < height m / b → Contains (x ∷ xs) (block b m p) → Has p e
      at q low is one rest p below (zero, inside, found) =
          let some = divisor b (height m) q low in
          rest p below (inl (one p below (inl (sym (mul-div_cancel p some) ∙ ap (λ n. n.0 / b) (sym (is ∙ found)) ∙ mul-div_cancel q some))))
      at q low is one rest p below (suc k, inside, found) = rest p below (inr (k, omega (arith, inside), found))

  -- what the step of a block brings and no other takes away holds of all blocks
  pub of_all_blocks : (may_make : C → Type 0) (last : C) → ((c : C) → may_make c → IsRight c) → IsPublished step may_make b m last
      → IsRight last × ((q : ℕ) → q < height m / b → Has q last)
  of_all_blocks may_make last new x =
      let n = height m / b in
      let first_are : All IsBlock (first_blocks b m n) = λ q e inside.
      let low : q < n = omega (arith, inside, length-map-range_with_len (block b m) 0 n) in
      subst IsBlock (sym (get_or-map-range_with_len (block b m) 0 n q q e low (omega arith))) (q, low, refl) in
      let done = after_blocks x.blocks x.first last (All-permutation IsBlock _ _ x.parts.each_once first_are) (new x.first x.made) x.run in (
        done.0,
        λ q low. done.1 q low (inr (Contains-permutation _ _ _ x.parts.each_once
            (subst (Contains (first_blocks b m n)) (get_or-map-range_with_len (block b m) 0 n q q (block b m 0) low (omega arith))
            (Contains-get_or (first_blocks b m n) q (block b m 0) (omega (arith, low, length-map-range_with_len (block b m) 0 n)))))),
      )

module _ {T : Type 0} where
  -- how many entries the rows of a block have
  abbrev size : ℕ × RowMajor T → ℕ
  size p = length p.1.values

  -- n blocks have no more entries than their rows
  blocks_size : (b : ℕ) (m : RowMajor T) (n : ℕ) → sum_by size (first_blocks b m n) ≤ n * (b * m.width)
  blocks_size b m zero = omega arith
  blocks_size b m (suc n) =
      let w = m.width in
      let one : length (take (((n * b) * w + b * w) - (n * b) * w) (drop ((n * b) * w) m.values)) ≤ b * w = search (rules, places) in
      let more = ap (λ k. sum_by size (first_blocks b m k)) (sym (add-one n)) ∙ sum_by-map-range_with_len_more size (block b m) 0 n n (omega arith) in
      omega (arith, more, blocks_size b m n, one, suc-mul n (b * w))

  -- and all of them no more than the matrix
  pub partition_size : (b : ℕ) (m : RowMajor T) (blocks : List (ℕ × RowMajor T)) → IsPartition b m blocks → sum_by size blocks ≤ height m * m.width
  partition_size b m blocks parts =
      let n = height m / b in
      let same : n * (b * m.width) ≡ (n * b) * m.width = sym (mul_assoc n b m.width) in
      omega (
        arith,
        sum_by-IsPermutation size (first_blocks b m n) blocks parts.each_once,
        blocks_size b m n,
        same,
        mul-le-mul_right m.width (div-mul-le_self (height m) b),
      )

  -- a partition has as many blocks as fit the height
  pub partition_length : (b : ℕ) (m : RowMajor T) (blocks : List (ℕ × RowMajor T)) → IsPartition b m blocks → length blocks ≡ height m / b
  partition_length b m blocks parts =
      length_permutation (first_blocks b m (height m / b)) blocks parts.each_once
      ∙ length-map-range_with_len (block b m) 0 (height m / b)

  -- a recorder with room for all blocks of a list keeps them behind the others, and misses none
  recorded : (blocks : List (ℕ × RowMajor T)) (c e : Recording T) → length blocks ≤ c.blocks_left
      → sum_by size blocks ≤ c.elements_left
      → Run (λ x start rows answer y. IsRecorded x start rows answer y) c blocks e
      → (e.blocks ≡ c.blocks ++ blocks) × (e.missed ≡ c.missed)
  recorded [] c e many large run = (ap (λ r. r.blocks) (sym run) ∙ sym (append-nil c.blocks), ap (λ r. r.missed) (sym run))
  recorded (p ∷ ps) c e many large (d, step, run) =
      let total = sum_by-cons size p ps in
      let kept = step.kept (omega (arith, many), omega (arith, total, large)) in
      let rest = recorded ps d e (rw kept (omega (arith, many))) (rw kept (omega (arith, total, large))) run in
      (rest.0 ∙ ap (λ r. r.blocks ++ ps) kept ∙ append_assoc c.blocks (p ∷ []) ps, rest.1 ∙ ap (λ r. r.missed) kept)

  -- a new recorder with room for all blocks and all entries of a matrix keeps each block once, and misses none
  pub all_recorded : (may_make : Recording T → Type 0) (b : ℕ) (out : RowMajor T) (last : Recording T) (blocks elements : ℕ)
      → ((c : Recording T) → may_make c → c ≡ record { blocks = []; missed = false; blocks_left = blocks; elements_left = elements })
      → height out / b ≤ blocks → height out * out.width ≤ elements
      → IsPublished (λ c start rows answer e. IsRecorded c start rows answer e) may_make b out last → IsPartition b out last.blocks × (last.missed ≡ false)
  all_recorded may_make b out last blocks elements new many large x =
      let first = new x.first x.made in
      let all =
      recorded x.blocks x.first last (rw (first, partition_length b out x.blocks x.parts) many)
      (rw first (omega (arith, large, partition_size b out x.blocks x.parts))) x.run in
      let held : last.blocks ≡ x.blocks = all.0 ∙ ap (λ r. r.blocks ++ x.blocks) first in
      (rw held x.parts, all.1 ∙ ap (λ r. r.missed) first)

  -- a limit counts each block that it takes
  counted : (blocks : List (ℕ × RowMajor T)) (c e : Limited)
      → Run {T = T} (λ x start rows answer y. IsCounted x start answer y) c blocks e
      → (e.limit ≡ c.limit) × (e.seen ≡ c.seen + length blocks)
  counted [] c e run = (ap (λ r. r.limit) (sym run), ap (λ r. r.seen) (sym run) ∙ omega arith)
  counted (p ∷ ps) c e (d, step, run) =
      ⊎_elim
      (λ below.
      let next = (step.taken below).1 in
      let rest = counted ps d e run in
      (rest.0 ∙ ap (λ l. l.limit) next, rest.1 ∙ ap (λ l. l.seen + length ps) next ∙ omega arith))
      (λ full. absurd (ok_is_no_err _ _ (sym (step.refused full).0)))
      (cases_lt c.seen c.limit)

  -- a new limit that took all blocks has seen as many as there are
  pub all_counted : (may_make : Limited → Type 0) (b : ℕ) (out : RowMajor T) (last : Limited) → ((c : Limited) → may_make c → c.seen ≡ 0)
      → IsPublished {T = T} (λ c start rows answer e. IsCounted c start answer e) may_make b out last → last.seen ≡ height out / b
  all_counted may_make b out last new x =
      (counted x.blocks x.first last x.run).1 ∙ ap₂ (λ m n. m + n) (new x.first x.made) (partition_length b out x.blocks x.parts) ∙ omega arith

  -- one that refused had taken as many as it may, and names a block
  pub limit_refused : {A : Type 0} (may_make : Limited → Type 0) (values : RowMajor T → Matrix A) (b : ℕ)
      (out : Matrix A) (last : Limited) (refusal : BlockRefused)
      → IsRefused {T = T} (λ c start rows answer e. IsCounted c start answer e) may_make values b out last refusal →
      (last.limit ≤ last.seen)
      × (refusal.start % b ≡ 0) × (refusal.start < out.height)
  limit_refused may_make values b out last refusal x =
      let middle = x.run.middle in
      let there : length x.accepted < length (x.accepted ++ x.refused ∷ []) = omega (arith, length-append x.accepted (x.refused ∷ [])) in
      let of_out = subst (IsBlockOf values b out) (get_or_push x.accepted x.refused x.refused _ refl) (x.blocks.each (length x.accepted) x.refused there) in
      ⊎_elim
      (λ below. absurd (ok_is_no_err _ _ (x.run.stop.taken below).0))
      (λ full.
      let told = x.run.stop.refused full in
      let named : refusal.start ≡ x.refused.0 = ap (λ a. start_of a) told.0 in
      (rw told.1 full, rw named of_out.multiple, rw named of_out.within))
      (cases_lt middle.seen middle.limit)

  -- blocks of b rows of m, none twice, are no more than fit
  blocks_fit : {A : Type 0} (values : RowMajor T → Matrix A) (b : ℕ) (m : Matrix A) (blocks : List (ℕ × RowMajor T))
      → 0 < b → m.height % b ≡ 0 → AreBlocksOf values b m blocks → length blocks ≤ m.height / b
  blocks_fit values b m blocks some divides are =
      omega (
        arith,
        length-map blocks number,
        length-le_from_distinct_below numbers (m.height / b)
            (IsDistinct-from_AllPairs {eq = eqb} Decides-eqb numbers distinct) below,
      )
    where
      number : ℕ × RowMajor T → ℕ
      number p = p.0 / b

      none : ℕ × RowMajor T
      none = (0, record { width = 0; values = [] })

      numbers : List ℕ
      numbers = map number blocks

      is : (i d : ℕ) → i < length numbers → get_or numbers i d ≡ (get_or blocks i none).0 / b
      is i d inside = get_or-map number blocks i none d (omega (arith, inside, length-map blocks number))

      first : (i : ℕ) → i < length numbers → (get_or blocks i none).0 ≡ (get_or blocks i none).0 / b * b
      first i inside = whole_number _ b (are.each i none (omega (arith, inside, length-map blocks number))).multiple

      distinct : (i j d : ℕ) → i < j → j < length numbers → get_or numbers i d ≡ get_or numbers j d → ⊥
      distinct i j d order inside same =
          are.distinct i j none order (omega (arith, inside, length-map blocks number))
          (first i (omega (arith, order, inside)) ∙ ap (λ n. n * b) (sym (is i d (omega (arith, order, inside))) ∙ same ∙ is j d inside) ∙ sym (first j inside))

      below : (q : ℕ) → list_any (eqb q) numbers ≡ true → q < m.height / b
      below q found =
          let (k, x, inside, at, tests) = Any-from_list_any (eqb q) numbers found in
          let here : k < length blocks = omega (arith, inside, length-map blocks number) in
          let named : q ≡ (get_or blocks k none).0 / b = eqb_same q x tests ∙ sym at ∙ is k x inside in
          let low : (get_or blocks k none).0 < m.height / b * b = omega (arith, (are.each k none here).within, whole_number m.height b divides) in
          rw named ((div-lt_iff_lt-mul some).1 low)

  -- a limit that took blocks and refused one more, of a matrix that consists of whole blocks: there are more blocks than it may take
  pub limit_exceeded : {A : Type 0} (may_make : Limited → Type 0) (values : RowMajor T → Matrix A) (b : ℕ)
      (out : Matrix A) (last : Limited) (refusal : BlockRefused) (limit : ℕ)
      → IsRefused {T = T} (λ c start rows answer e. IsCounted c start answer e) may_make values b out last refusal →
      ((c : Limited) → may_make c → (c.limit ≡ limit) × (c.seen ≡ 0))
      → (n : ℕ) → out.height ≡ n → 0 < b → n % b ≡ 0 → limit < n / b
  limit_exceeded may_make values b out last refusal limit x new n high some divides =
      let first = new x.first x.made in
      let told = counted x.accepted x.first x.run.middle x.run.run in
      let fit = blocks_fit values b out (x.accepted ++ x.refused ∷ []) some (rw high divides) x.blocks in
      let rows : out.height / b ≡ n / b = ap (λ h. h / b) high in
      let more : length (x.accepted ++ x.refused ∷ []) ≡ length x.accepted + 1 = search (rules, places) in
      ⊎_elim
      (λ below. absurd (ok_is_no_err _ _ (x.run.stop.taken below).0))
      (λ full. omega (arith, full, told.0, told.1, first.0, first.1, fit, more, rows))
      (cases_lt x.run.middle.seen x.run.middle.limit)

  -- one that took all blocks may take as many as it might
  pub limit_stays : (may_make : Limited → Type 0) (b : ℕ) (out : RowMajor T) (last : Limited) (limit : ℕ) → ((c : Limited) → may_make c → c.limit ≡ limit)
      → IsPublished {T = T} (λ c start rows answer e. IsCounted c start answer e) may_make b out last → last.limit ≡ limit
  limit_stays may_make b out last limit new x = (counted x.blocks x.first last x.run).0 ∙ new x.first x.made

-- ---- consumers that copy each block to its place
-- what is written over a part of a list, and the rest of it
module _ {T : Type 0} (d : T) (xs ws : List T) (a : ℕ) (room : a + length ws ≤ length xs) where
  elements_long : length (with_elements xs a ws) ≡ length xs
  elements_long = search (rules, places)

  elements_before : (i : ℕ) → i < a → get_or (with_elements xs a ws) i d ≡ get_or xs i d
  elements_before i before = search (rules, places)

  elements_in : (i : ℕ) → i < length ws → get_or (with_elements xs a ws) (a + i) d ≡ get_or ws i d
  elements_in i inside = search (rules, places)

  elements_behind : (i : ℕ) → a + length ws ≤ i → get_or (with_elements xs a ws) i d ≡ get_or xs i d
  elements_behind i behind = search (rules, places)

module _ {C T R : Type 0} {step : C → ℕ → RowMajor T → Result ⊤ R → C → Type 0} {may_make : C → Type 0} {b : ℕ}
    {last : C} (m : RowMajor T) (whole : IsRowMajor m) (entries : C → List T)
    (copies : (c : C) (start : ℕ) (rows : RowMajor T) (e : C) → step c start rows (Ok tt) e → IsCopied (entries c) start rows (entries e))
    (new : (c : C) → may_make c → length (entries c) ≡ length m.values) (x : IsPublished step may_make b m last) where
  abbrev IsLong : C → Type 0
  IsLong c = length (entries c) ≡ length m.values

  abbrev HasBlock : T → ℕ → C → Type 0
  HasBlock d q c = (i : ℕ) → (q * b) * m.width ≤ i → i < (q * b) * m.width + b * m.width → get_or (entries c) i d ≡ get_or m.values i d

  -- block q lies within the matrix
  block_fits : (q : ℕ) → q < height m / b → (q * b) * m.width + b * m.width ≤ length m.values
  block_fits q low = rows_within (q * b) b (height m) m.width (length m.values) (block_within q b (height m) low) whole.full

  block_entries : (q : ℕ) → q < height m / b → length (rows_from m (q * b) b).values ≡ b * m.width
  block_entries q low =
      let fits = block_fits q low in
      let gap : ((q * b) * m.width + b * m.width) - (q * b) * m.width ≡ b * m.width = omega arith in
      search (rules, places)

  block_entry : (d : T) (q i : ℕ) → q < height m / b → i < b * m.width → get_or (rows_from m (q * b) b).values i d ≡ get_or m.values ((q * b) * m.width + i) d
  block_entry d q i low inside =
      let fits = block_fits q low in
      let gap : ((q * b) * m.width + b * m.width) - (q * b) * m.width ≡ b * m.width = omega arith in
      search (rules, places)

  -- a block brings its entries, and leaves the others
  one_more : (d : T) (q : ℕ) (c e : C) → q < height m / b → IsLong c → step c (q * b) (rows_from m (q * b) b) (Ok tt) e
      → IsLong e × ((p : ℕ) → p < height m / b → (p ≡ q) ⊎ HasBlock d p c → HasBlock d p e)
  one_more d q c e low long told =
      let w = m.width in
      let a = (q * b) * w in
      let ws = (rows_from m (q * b) b).values in
      let size = block_entries q low in
      let room : a + length ws ≤ length (entries c) = omega (arith, size, block_fits q low, long) in
      let is : entries e ≡ with_elements (entries c) a ws = copies c (q * b) (rows_from m (q * b) b) e told room in
      let at : (i : ℕ) → get_or (entries e) i d ≡ get_or (with_elements (entries c) a ws) i d = λ i. ap (λ xs. get_or xs i d) is in
      let inside : (i : ℕ) → a ≤ i → i < a + b * w → get_or (entries e) i d ≡ get_or m.values i d = λ i from to.
      let place : a + (i - a) ≡ i = omega (arith, from) in
      let below : i - a < b * w = omega (arith, from, to) in
      subst (λ n. get_or (entries e) n d ≡ get_or m.values n d) place
      (at (a + (i - a)) ∙ elements_in d (entries c) ws a room (i - a) (omega (arith, below, size)) ∙ block_entry d q (i - a) low below) in (
        ap length is ∙ elements_long d (entries c) ws a room ∙ long,
        λ p below choice i from to.
            ⊎_elim
            (λ before.
            ⊎_elim
            (λ same. absurd (omega (arith, before, subst (λ n. (n * b) * w ≤ i) same from)))
            (λ has. at i ∙ elements_before d (entries c) ws a room i before ∙ has i from to)
            choice)
            (λ start.
            ⊎_elim
            (λ end. inside i start end)
            (λ behind.
            ⊎_elim
            (λ same. absurd (omega (arith, behind, subst (λ n. i < (n * b) * w + b * w) same to)))
            (λ has. at i ∙ elements_behind d (entries c) ws a room i (omega (arith, behind, size)) ∙ has i from to)
            choice)
            (cases_lt i (a + b * w)))
            (cases_lt i a),
      )

  copied_by : T → entries last ≡ m.values
  copied_by d =
      let w = m.width in
      let done = of_all_blocks step IsLong (HasBlock d) b m (one_more d) may_make last new x in
      ext_get_or d (entries last) m.values done.0 (λ i inside.
      let r = i / w in
      let q = r / b in
      let below : r < height m = div_below i w (height m) whole.width (omega (arith, inside, done.0, whole.full)) in
      let low : q < height m / b = within_blocks b (height m) r x.parts.divides below in
      let row_low : q * b ≤ r = omega (arith, div-add-mod' r b) in
      let row_high : r + 1 ≤ q * b + b = omega (arith, div-add-mod' r b, mod_below r b (divisor b (height m) q low)) in
      let first : (q * b) * w ≤ i = omega (arith, mul-le-mul_right w row_low, div-add-mod' i w) in
      let end : i < (q * b) * w + b * w =
      omega (arith, mul-le-mul_right w row_high, add-mul (q * b) b w, add-mul r 1 w, div-add-mod' i w, mod_below i w whole.width) in
      done.1 q low i first end)

  -- a consumer that copies each block to its place, and was made with as many entries as the matrix has, holds those of the matrix
  pub all_copied : entries last ≡ m.values
  all_copied = by (entries last) m.values refl refl
    where
      by : (xs ys : List T) → entries last ≡ xs → m.values ≡ ys → entries last ≡ m.values
      by xs (d ∷ ys) is values = copied_by d
      by (d ∷ xs) [] is values = copied_by d
      by [] [] is values = is ∙ sym values
