-- Sums over lists, and over the blocks of a matrix: whatever the order of the blocks, the sum of theirs is that of all entries.
use Rattle.std.proofs.Common.{◌≡◌, ◌≢◌, ℕ, zero, suc, ◌+◌, ◌*◌, ◌/◌, ◌%◌, ◌<◌, ◌≤◌, List, [], ◌∷◌, ◌++◌, length, get_or}
use Rattle.std.proofs.Common.{map, take, drop, slice_range, Result, Ok, Err, refl, sym, ap, ap₂, ◌∙◌, subst, arith}
use Rattle.std.proofs.Common.{rules, add-one, ⊎_elim}
use Rattle.std.specs.Prelude.{⊤, IsPermutation}
use Rattle.std.specs.List.{All, AllPairs, swap}
use Rattle.std.proofs.Math.ListN.{set}
use Rattle.std.proofs.lemmas.Bool.Decides.{eqb_tells}
use Rattle.std.proofs.Math.Nat.{add-mul, suc-mul}
use Rattle.std.proofs.lemmas.List.{get_or-map, get_or_append_left, length-map, places, get_or-set_same}
use Rattle.std.proofs.lemmas.List.{get_or-set_other, length-set, take-append-drop, take-take, take_all}
use Rattle.std.proofs.lemmas.List.FromFn.{map-range_with_len_more}
use Rattle.std.proofs.lemmas.List.Sorted.{IsPermutation-keeps}
use Rattle.std.proofs.lemmas.Nat.{div-add-mod', div_below, mod_below}
use Rattle.std.proofs.lemmas.Slice.{between_is}
use Rattle.p3_field.specs.Ring.{Ring}
use Rattle.p3_field.proofs.Rings
use Rattle.p3_field.proofs.RingSolver.{solve, va, vb, vc, ◌⊞◌}
use Rattle.p3_matrix.specs.Blocks.{IsBlockOf, IsPublished, IsRefused, Run, block, first_blocks}
use Rattle.p3_matrix.specs.Matrix.{Matrix, image, matrix}
use Rattle.p3_matrix.specs.RowMajor.{RowMajor, IsRowMajor, height}
use Rattle.examples.specs.Sums.{sum_of_blocks, sum_of_rows}
use Rattle.p3_matrix.specs.Polynomials.{sum}
use Rattle.p3_matrix.proofs.Consumers.{partition_length}
use Rattle.p3_matrix.proofs.Polynomials.ByIndex.{sum_same}

-- no terms
pub sum_none : {A : Type 0} (R : Ring A) (t : ℕ → A) → sum R 0 t ≡ R.zero
unfolding sum
sum_none R t = refl

-- one more term at the end
sum_more : {A : Type 0} (R : Ring A) (n : ℕ) (t : ℕ → A) → sum R (suc n) t ≡ R.add (sum R n t) (t n)
unfolding sum
sum_more R zero t = R.add_comm (t 0) R.zero
sum_more R (suc n) t = ap (R.add (t 0)) (sum_more R n (λ j. t (suc j))) ∙ sym (R.add_assoc (t 0) _ _)

-- as a loop adds it
pub sum_step : {A : Type 0} (R : Ring A) (n : ℕ) (t : ℕ → A) (x y z : A) → x ≡ sum R n t → y ≡ t n → z ≡ R.add x y → z ≡ sum R (n + 1) t
sum_step R n t x y z so_far next more =
    more ∙ ap₂ R.add so_far next ∙ sym (sum_more R n t) ∙ ap (λ k. sum R k t) (sym (add-one n))

module _ {A T : Type 0} (R : Ring A) (f : T → A) where
  open R use {add as ◌⊕◌, zero as 𝟘}

  infixl 60 ◌⊕◌
  -- the sum of f of the elements of a list; d stands past its end
  abbrev pub total : T → List T → A
  total d xs = sum R (length xs) (λ i. f (get_or xs i d))

  total-cons : (d x : T) (xs : List T) → total d (x ∷ xs) ≡ f x ⊕ total d xs
  unfolding sum
  total-cons d x xs = refl

  total-nil : (d : T) → total d [] ≡ 𝟘
  unfolding sum
  total-nil d = refl

  pub total-append : (d : T) (xs ys : List T) → total d (xs ++ ys) ≡ total d xs ⊕ total d ys
  total-append d [] ys = sym (ap (λ a. a ⊕ total d ys) (total-nil d) ∙ Rings.zero-add R (total d ys))
  total-append d (x ∷ xs) ys =
      total-cons d x (xs ++ ys) ∙ ap (λ a. f x ⊕ a) (total-append d xs ys) ∙ sym (R.add_assoc (f x) (total d xs) (total d ys))
      ∙ ap (λ a. a ⊕ total d ys) (sym (total-cons d x xs))

  pub total_push : (d : T) (xs : List T) (y : T) → total d (xs ++ y ∷ []) ≡ total d xs ⊕ f y
  total_push d xs y = total-append d xs (y ∷ []) ∙ ap (λ a. total d xs ⊕ a) (total-cons d y [] ∙ ap (λ a. f y ⊕ a) (total-nil d) ∙ R.add_zero (f y))

  -- an element that becomes another
  total-set : (d : T) (xs : List T) (i : ℕ) (y e : T) → i < length xs → total d (set xs i y) ⊕ f (get_or xs i e) ≡ total d xs ⊕ f y
  total-set d [] i y e l = absurd (omega (arith, l))
  total-set d (x ∷ xs) zero y e l =
      ap (λ a. a ⊕ f x) (total-cons d y xs)
      ∙ solve R (f x ∷ f y ∷ total d xs ∷ []) ((vb ⊞ vc) ⊞ va) ((va ⊞ vc) ⊞ vb) refl
      ∙ ap (λ a. a ⊕ f y) (sym (total-cons d x xs))
  total-set d (x ∷ xs) (suc i) y e l =
      ap (λ a. a ⊕ f (get_or xs i e)) (total-cons d x (set xs i y)) ∙ R.add_assoc (f x) _ _ ∙ ap (λ a. f x ⊕ a) (total-set d xs i y e (omega (arith, l)))
      ∙ sym (R.add_assoc (f x) _ _) ∙ ap (λ a. a ⊕ f y) (sym (total-cons d x xs))

  total_exchanged : (d : T) (xs : List T) (i j : ℕ) (e : T) → i < length xs → j < length xs
      → total d (set (set xs i (get_or xs j e)) j (get_or xs i e)) ≡ total d xs
  total_exchanged d xs i j e p q =
      let w = set xs i (get_or xs j e) in
      let there : get_or w j e ≡ get_or xs j e =
      ⊎_elim (λ s. ap (λ n. get_or w n e) s.1 ∙ get_or-set_same xs i (get_or xs j e) e p)
      (λ n. get_or-set_other xs i j (get_or xs j e) e n.1) (eqb_tells j i) in
      let first = total-set d xs i (get_or xs j e) e p in
      let second = total-set d w j (get_or xs i e) e (omega (arith, q, length-set xs i (get_or xs j e))) in
      Rings.add_cancel R (f (get_or xs j e)) _ _
      (R.add_comm _ _ ∙ ap (λ a. total d (set w j (get_or xs i e)) ⊕ f a) (sym there) ∙ second ∙ first ∙ R.add_comm _ _)

  -- the order makes no difference
  pub total_permuted : (d : T) (xs ys : List T) → IsPermutation xs ys → total d ys ≡ total d xs
  total_permuted d xs ys = IsPermutation-keeps xs (λ l. total d l ≡ total d xs) refl (λ l i j p q h. exchanged l i j p q ∙ h) ys
    where
      exchanged : (l : List T) (i j : ℕ) → i < length l → j < length l → total d (swap l i j) ≡ total d l
      exchanged [] i j p q = refl
      exchanged (x ∷ xs) i j p q = total_exchanged d (x ∷ xs) i j x p q

module _ {A T : Type 0} (R : Ring A) (f : T → A) (d : T) where
  open R use {add as ◌⊕◌, zero as 𝟘}

  infixl 60 ◌⊕◌
  -- the sum over a block
  abbrev pub block_total : ℕ × RowMajor T → A
  block_total p = total R f d p.1.values

  abbrev none : ℕ × RowMajor T
  none = (0, record { width = 0; values = [] })

  -- what stands before a part of a list, and the part
  part_after : (xs : List T) (a b : ℕ) → a ≤ b → take a xs ++ slice_range xs a b ≡ take b xs
  part_after xs a b l =
      ap (λ ys. take a xs ++ ys) (between_is xs a b) ∙ ap (λ ys. ys ++ drop a (take b xs)) (sym (take-take a b xs l))
      ∙ take-append-drop a (take b xs)

  -- the first n blocks have the sum of the entries of their rows
  first_total : (b : ℕ) (m : RowMajor T) (n : ℕ) → total R block_total none (first_blocks b m n) ≡ total R f d (take ((n * b) * m.width) m.values)
  first_total b m zero =
      let from : 0 ≡ (0 * b) * m.width = omega arith in
      total-nil R block_total none ∙ sym (total-nil R f d) ∙ ap (λ k. total R f d (take k m.values)) from
  first_total b m (suc n) =
      let w = m.width in
      let from = (n * b) * w in
      let to : from + b * w ≡ (suc n * b) * w = omega (arith, suc-mul n b, add-mul (n * b) b w) in
      ap (λ k. total R block_total none (first_blocks b m k)) (sym (add-one n))
      ∙ ap (total R block_total none) (map-range_with_len_more (block b m) 0 n n (omega arith))
      ∙ total_push R block_total none (first_blocks b m n) (block b m n)
      ∙ ap (λ a. a ⊕ total R f d (slice_range m.values from (from + b * w))) (first_total b m n)
      ∙ sym (total-append R f d (take from m.values) (slice_range m.values from (from + b * w)))
      ∙ ap (total R f d) (part_after m.values from (from + b * w) (omega arith)) ∙ ap (λ k. total R f d (take k m.values)) to

  -- a consumer that adds the sum of each block to its own has the sum of a list of blocks
  run_total : {C X : Type 0} (step : C → ℕ → RowMajor T → Result ⊤ X → C → Type 0) (g : C → A)
      → ((c : C) (start : ℕ) (m : RowMajor T) (e : C) → step c start m (Ok tt) e → g e ≡ g c ⊕ total R f d m.values)
      → (blocks : List (ℕ × RowMajor T)) (c e : C) → Run step c blocks e → g e ≡ g c ⊕ total R block_total none blocks
  run_total step g adds [] c e run = ap g (sym run) ∙ sym (ap (λ a. g c ⊕ a) (total-nil R block_total none) ∙ R.add_zero (g c))
  run_total step g adds (p ∷ ps) c e (j, told, run) =
      run_total step g adds ps j e run ∙ ap (λ a. a ⊕ total R block_total none ps) (adds c p.0 p.1 j told) ∙ R.add_assoc (g c) _ _
      ∙ ap (λ a. g c ⊕ a) (sym (total-cons R block_total none p ps))

  -- one that began with zero has the sum of all entries of a matrix that was published
  pub published_total : {C X : Type 0} (step : C → ℕ → RowMajor T → Result ⊤ X → C → Type 0) (may_make : C → Type 0)
      (g : C → A) (b : ℕ) (m : RowMajor T) (last : C)
      → IsRowMajor m
      → ((c : C) (start : ℕ) (r : RowMajor T) (e : C) → step c start r (Ok tt) e → g e ≡ g c ⊕ total R f d r.values) → ((c : C) → may_make c → g c ≡ 𝟘)
      → IsPublished step may_make b m last → g last ≡ total R f d m.values
  published_total step may_make g b m last whole adds new x =
      let n = height m / b in
      let all : n * b ≡ height m = omega (arith, div-add-mod' (height m) b, x.parts.divides) in
      let size : (n * b) * m.width ≡ length m.values = ap (λ h. h * m.width) all ∙ whole.full in
      run_total step g adds x.blocks x.first last x.run ∙ ap (λ a. a ⊕ total R block_total none x.blocks) (new x.first x.made) ∙ Rings.zero-add R _
      ∙ total_permuted R block_total none (first_blocks b m n) x.blocks x.parts.each_once ∙ first_total b m n ∙ ap
      (total R f d) (take_all _ m.values (omega (arith, size)))

module _ {T C X : Type 0} (step : C → ℕ → RowMajor T → Result ⊤ X → C → Type 0) (left : C → ℕ)
    (takes : (c : C) (start : ℕ) (m : RowMajor T) (e : C) → step c start m (Ok tt) e → left c ≡ left e + 1) where
  -- a consumer that took blocks, each for one of those that it had left
  pub run_left : (blocks : List (ℕ × RowMajor T)) (c e : C) → Run step c blocks e → left c ≡ left e + length blocks
  run_left [] c e run = ap left run ∙ omega arith
  run_left (p ∷ ps) c e (j, told, run) = omega (arith, takes c p.0 p.1 j told, run_left ps j e run)

  -- one that took all blocks of a matrix had as many left
  pub blocks_within : (may_make : C → Type 0) (limit b : ℕ) (m : RowMajor T) (last : C) → ((c : C) → may_make c → left c ≡ limit)
      → IsPublished step may_make b m last → height m / b ≤ limit
  blocks_within may_make limit b m last new x =
      omega (arith, new x.first x.made, run_left x.blocks x.first last x.run, partition_length b m x.blocks x.parts)

module _ {A T : Type 0} (R : Ring A) (f : T → A) (d : T) (b : ℕ) (out : Matrix A) where
  open R use {add as ◌⊕◌, zero as 𝟘}

  infixl 60 ◌⊕◌
  -- the entries of a block are those of its rows
  block_entries : (p : ℕ × RowMajor T) → IsBlockOf (λ m. image f (matrix d m)) b out p → total R f d p.1.values ≡ sum_of_rows R b out p.0
  block_entries p is =
      let m = p.1 in
      let w = m.width in
      let wide : w ≡ out.width = is.rows.width in
      let tall : height m ≡ b = is.rows.height in
      let size : length m.values ≡ b * out.width = sym is.whole.full ∙ ap₂ (λ (h v : ℕ). h * v) tall wide in
      let some : 0 < w = omega (arith, is.whole.width) in
      sum_same R (length m.values) (λ i. f (get_or m.values i d)) (λ i. out.entry (p.0 + i / out.width) (i % out.width))
      (λ i below.
      ap (λ q. f (get_or m.values q d)) (sym (div-add-mod' i w))
      ∙ is.rows.alike (i / w) (i % w) (div_below i w (height m) some (omega (arith, below, is.whole.full))) (mod_below i w some)
      ∙ ap (λ v. out.entry (p.0 + i / v) (i % v)) wide)
      ∙ ap (λ n. sum R n (λ i. out.entry (p.0 + i / out.width) (i % out.width))) size

  -- a consumer that added up the entries of each block that it took
  run_entries : {C X : Type 0} (step : C → ℕ → RowMajor T → Result ⊤ X → C → Type 0) (g : C → A)
      → ((c : C) (start : ℕ) (m : RowMajor T) (e : C) → step c start m (Ok tt) e → g e ≡ g c ⊕ total R f d m.values)
      → (blocks : List (ℕ × RowMajor T)) (c e : C) → All (IsBlockOf (λ m. image f (matrix d m)) b out) blocks → Run step c blocks e
      → g e ≡ g c ⊕ sum_of_blocks R b out (map (λ p. p.0) blocks)
  unfolding sum
  run_entries step g adds [] c e each run = ap g (sym run) ∙ sym (R.add_zero (g c))
  run_entries step g adds (p ∷ ps) c e each (j, told, run) =
      let here : IsBlockOf (λ m. image f (matrix d m)) b out p = each 0 p (omega arith) in
      let rest = run_entries step g adds ps j e (λ i x inside. each (suc i) x (omega (arith, inside))) run in
      rest ∙ ap (λ a. a ⊕ sum_of_blocks R b out (map (λ q. q.0) ps)) (adds c p.0 p.1 j told ∙ ap (λ a. g c ⊕ a) (block_entries p here)) ∙ R.add_assoc (g c) _ _

  -- one that began with zero, and refused a block when it had none left
  pub sum_at_refusal : {C X : Type 0} (step : C → ℕ → RowMajor T → Result ⊤ X → C → Type 0) (may_make : C → Type 0)
      (g : C → A) (left : C → ℕ) (limit : ℕ) (last : C) (refusal : X)
      → ((c : C) (start : ℕ) (m : RowMajor T) (e : C) → step c start m (Ok tt) e → (left c ≡ left e + 1) × (g e ≡ g c ⊕ total R f d m.values))
      → ((c : C) (start : ℕ) (m : RowMajor T) (e : C) → step c start m (Err refusal) e → (left c ≡ 0) × (e ≡ c))
      → ((c : C) → may_make c → (g c ≡ 𝟘) × (left c ≡ limit))
      → IsRefused step may_make (λ m. image f (matrix d m)) b out last refusal
      → (starts : List ℕ) × (length starts ≡ limit) × AllPairs (λ i j. i ≢ j) starts × All (λ start. (start % b ≡ 0) × (start < out.height)) starts
      × (g last ≡ sum_of_blocks R b out starts)
  sum_at_refusal step may_make g left limit last refusal adds refuses new x =
      let first = new x.first x.made in
      let blocks = x.accepted in
      let middle = x.run.middle in
      let stopped = refuses middle x.refused.0 x.refused.1 last x.run.stop in
      let number = λ (p : ℕ × RowMajor T). p.0 in
      let none = x.refused in
      let joined : length (blocks ++ none ∷ []) ≡ length blocks + 1 = search (rules, places) in
      let at : (i : ℕ) → i < length blocks → get_or (blocks ++ none ∷ []) i none ≡ get_or blocks i none =
      λ i l. get_or_append_left blocks (none ∷ []) none i l in
      let each : All (IsBlockOf (λ m. image f (matrix d m)) b out) blocks = λ i e inside.
      subst (IsBlockOf (λ m. image f (matrix d m)) b out) (get_or_append_left blocks (none ∷ []) e i inside)
      (x.blocks.each i e (omega (arith, inside, joined))) in
      let many = run_left step left (λ c start m e told. (adds c start m e told).0) blocks x.first middle x.run.run in
      let sums = run_entries step g (λ c start m e told. (adds c start m e told).1) blocks x.first middle each x.run.run in
      let start_is : (i e : ℕ) → i < length (map number blocks) → get_or (map number blocks) i e ≡ (get_or blocks i none).0 = λ i e inside.
      get_or-map number blocks i none e (omega (arith, inside, length-map blocks number)) in (
        map number blocks,
        length-map blocks number ∙ omega (arith, many, first.1, stopped.0),
        (λ i j e before inside same.
            let in_blocks : j < length blocks = omega (arith, inside, length-map blocks number) in
            x.blocks.distinct i j none before (omega (arith, in_blocks, joined))
            (ap number (at i (omega (arith, before, in_blocks))) ∙ sym (start_is i e (omega (arith, before, inside)))
            ∙ same ∙ start_is j e inside ∙ sym (ap number (at j in_blocks)))),
        (λ i e inside.
            let here = each i none (omega (arith, inside, length-map blocks number)) in
            rw (start_is i e inside) (here.multiple, here.within)),
        ap g stopped.1 ∙ sums ∙ ap (λ a. a ⊕ sum_of_blocks R b out (map number blocks)) first.0 ∙ Rings.zero-add R _,
      )
