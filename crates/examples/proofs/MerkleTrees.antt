-- What a consumer holds that digests the rows of each block that it is lent, and the tree over its digests.
use Rattle.std.proofs.Common.{◌≡◌, ℕ, zero, suc, ◌+◌, ◌*◌, ◌-◌, ◌/◌, ◌^◌, ◌<◌, ◌≤◌, ◌⊎◌, List, length, get_or, map}
use Rattle.std.proofs.Common.{take, drop, Result, Ok, refl, sym, ap, ap₂, ◌∙◌, subst, arith, ⊎_elim}
use Rattle.std.specs.Prelude.{⊤}
use Rattle.std.specs.List.{range_with_len}
use Rattle.std.proofs.Math.Nat.{two-pow-succ}
use Rattle.std.proofs.lemmas.Bool.{cases_lt}
use Rattle.std.proofs.lemmas.List.{get_or-drop, get_or-take}
use Rattle.std.proofs.lemmas.Simd.{map-map}
use Rattle.std.proofs.lemmas.Nat.{div-add-mod', mod_below}
use Rattle.p3_matrix.specs.Blocks.{IsPublished}
use Rattle.p3_field.specs.declared.fields.Valued.{Ghosts as FieldMembers}
use Rattle.p3_matrix.specs.BitOrder.{bit_reversal, rev}
use Rattle.p3_matrix.specs.Cosets.{values_of}
use Rattle.p3_matrix.specs.Matrix.{Matrix, Same, matrix, row_of}
use Rattle.p3_matrix.specs.RowMajor.{IsRowMajor, RowMajor, height, row, rows_from}
use Rattle.p3_matrix.proofs.BitReversal.{rev-lt}
use Rattle.p3_matrix.proofs.BlockRuns.{block_within, is_block}
use Rattle.p3_matrix.proofs.Consumers.{divisor, of_all_blocks, within_blocks}
use Rattle.p3_matrix.proofs.Matrices.{list_same}
use Rattle.p3_matrix.proofs.RowMajor.{part_by_index, row_within}
use Rattle.examples.specs.MerkleTrees.{AreDigests, AreHashed, tree}

-- equal leaves have one root
pub tree_same : {V : Type 0} (join : V → V → V) (k : ℕ) (f g : ℕ → V) → ((i : ℕ) → i < 2 ^ k → f i ≡ g i) → tree join k f ≡ tree join k g
tree_same join zero f g same = same 0 (omega arith)
tree_same join (suc k) f g same =
    ap₂ join (tree_same join k f g (λ i l. same i (omega (arith, two-pow-succ k))))
    (tree_same join k (λ i. f (2 ^ k + i)) (λ i. g (2 ^ k + i)) (λ i l. same (2 ^ k + i) (omega (arith, two-pow-succ k))))

-- half of a power of two is the power before it
pub halves : (k n : ℕ) → 1 ≤ k → n ≡ 2 ^ k → (n / 2 ≡ 2 ^ (k - 1)) × (n - n / 2 ≡ 2 ^ (k - 1))
halves zero n some is = absurd (omega (arith, some))
halves (suc j) n some is =
    let log : suc j - 1 ≡ j = omega arith in
    let twice : n ≡ 2 ^ j + 2 ^ j = is ∙ two-pow-succ j in
    rw log (omega (arith, twice), omega (arith, twice))

-- the roots of both halves of a list, joined, are that of the list
pub joined_halves : {D V : Type 0} (worth : D → V) (join : V → V → V) (k : ℕ) (xs front back : List D) (d : D) → 1 ≤ k → length xs ≡ 2 ^ k
    → front ≡ take (length xs / 2) xs → back ≡ drop (length xs / 2) xs
    → join (tree join (k - 1) (λ i. worth (get_or front i d))) (tree join (k - 1) (λ i. worth (get_or back i d))) ≡ tree join k (λ i. worth (get_or xs i d))
joined_halves worth join zero xs front back d some size front_is back_is = absurd (omega (arith, some))
joined_halves worth join (suc j) xs front back d some size front_is back_is =
    let log : suc j - 1 ≡ j = omega arith in
    let half : length xs / 2 ≡ 2 ^ j = (halves (suc j) (length xs) some size).0 ∙ ap (λ n. 2 ^ n) log in
    rw log
    (ap₂ join
    (tree_same join j (λ i. worth (get_or front i d)) (λ i. worth (get_or xs i d)) (λ i l. ap worth
    (ap (λ ys. get_or ys i d) front_is ∙ get_or-take (length xs / 2) xs i d (omega (arith, half, l)))))
    (tree_same join j (λ i. worth (get_or back i d)) (λ i. worth (get_or xs (2 ^ j + i) d))
    (λ i l. ap worth (ap (λ ys. get_or ys i d) back_is ∙ get_or-drop (length xs / 2) xs i d ∙ ap (λ n. get_or xs (n + i) d) half))))

module _ {T : Type 0} (d : T) (m : RowMajor T) (whole : IsRowMajor m) (b : ℕ) where
  -- row r of block q is a row of the matrix
  pub block_row : (q r : ℕ) → q < height m / b → r < b → (height (rows_from m (q * b) b) ≡ b) × (row (rows_from m (q * b) b) r ≡ row m (q * b + r))
  block_row q r low inside =
      let w = m.width in
      let p = rows_from m (q * b) b in
      let is =
      is_block (λ x. x) d m whole (matrix d m) (record { height = refl; width = refl; alike = λ i j x y. refl }) b
      (divisor b (height m) q low) q low in
      let tall : height p ≡ b = is.rows.height in
      let room : q * b + b ≤ height m = block_within q b (height m) low in (
        tall,
        part_by_index p.values (r * w) w d (row_within r (height p) w (length p.values) (omega (arith, inside, tall)) is.whole.full)
            ∙ list_same (λ j. get_or p.values (r * w + j) d) (λ j. get_or m.values ((q * b + r) * w + j) d) w
            (λ j l. is.rows.alike r j (omega (arith, inside, tall)) l)
            ∙ sym (part_by_index m.values ((q * b + r) * w) w d
            (row_within (q * b + r) (height m) w (length m.values) (omega (arith, room, inside)) whole.full)),
      )

module _ {C T R D V : Type 0} (step : C → ℕ → RowMajor T → Result ⊤ R → C → Type 0) (worth : D → V) (of : List T → V)
    (digests : C → List D) (IsRight : C → Type 0)
    (next : (c : C) (start : ℕ) (rows : RowMajor T) (e : C) → IsRight c → step c start rows (Ok tt) e
    → IsRight e × AreHashed worth (λ r. of (row rows r)) start (height rows) (digests c) (digests e)) (z : T)
    (m : RowMajor T) (whole : IsRowMajor m) (b : ℕ) where
  -- there is a place for each row
  abbrev HasRoom : C → Type 0
  HasRoom c = IsRight c × (length (digests c) ≡ height m)

  -- the digests of the rows of block q are there
  abbrev HasDigests : ℕ → C → Type 0
  HasDigests q c = (i : ℕ) (d : D) → q * b ≤ i → i < q * b + b → worth (get_or (digests c) i d) ≡ of (row m i)

  -- a block brings the digests of its rows, and leaves the others
  after_block : (q : ℕ) (c e : C) → q < height m / b → HasRoom c → step c (q * b) (rows_from m (q * b) b) (Ok tt) e
      → HasRoom e × ((p : ℕ) → p < height m / b → (p ≡ q) ⊎ HasDigests p c → HasDigests p e)
  after_block q c e low (right, long) told =
      let (right_too, hashed) = next c (q * b) (rows_from m (q * b) b) e right told in
      let room : q * b + b ≤ height m = block_within q b (height m) low in
      let tall : height (rows_from m (q * b) b) ≡ b = (block_row z m whole b q 0 low (divisor b (height m) q low)).0 in
      let inside : (i : ℕ) (d : D) → q * b ≤ i → i < q * b + b → worth (get_or (digests e) i d) ≡ of (row m i) = λ i d from to.
      let r = i - q * b in
      let place : q * b + r ≡ i = omega (arith, from) in
      let below : r < b = omega (arith, from, to) in
      subst (λ n. worth (get_or (digests e) n d) ≡ of (row m n)) place
      (hashed.hashed r d (omega (arith, below, tall)) (omega (arith, below, room, long)) ∙ ap of (block_row z m whole b q r low below).1) in (
        (right_too, hashed.long ∙ long),
        λ p below choice i d from to.
            ⊎_elim
            (λ before.
            ⊎_elim
            (λ is. absurd (omega (arith, before, subst (λ n. n * b ≤ i) is from)))
            (λ has. ap worth (hashed.below i d before) ∙ has i d from to)
            choice)
            (λ start.
            ⊎_elim
            (λ end. inside i d start end)
            (λ behind.
            ⊎_elim
            (λ is. absurd (omega (arith, behind, subst (λ n. i < n * b + b) is to)))
            (λ has. ap worth (hashed.behind i d (omega (arith, behind, tall))) ∙ has i d from to)
            choice)
            (cases_lt i (q * b + b)))
            (cases_lt i (q * b)),
      )

  -- and after all blocks of the matrix each row has it
  pub all_hashed : (may_make : C → Type 0) (last : C) → ((c : C) → may_make c → HasRoom c)
      → IsPublished step may_make b m last → AreDigests worth of m (digests last)
  all_hashed may_make last new x =
      let done = of_all_blocks step HasRoom HasDigests b m after_block may_make last new x in
      record {
        long = done.0.1;
        each = λ i below d.
            let low = within_blocks b (height m) i x.parts.divides below in
            done.1 (i / b) low i d (omega (arith, div-add-mod' i b)) (omega (arith, div-add-mod' i b, mod_below i b (divisor b (height m) (i / b) low)));
      }

-- the root over the digests of the rows is that of the rows
pub root_of_digests : {T D V : Type 0} (worth : D → V) (join : V → V → V) (of : List T → V) (m : RowMajor T) (digests xs : List D) (k bits : ℕ) (d : D)
    → AreDigests worth of m digests → xs ≡ digests → height m ≡ 2 ^ bits → k
    ≡ bits → tree join k (λ i. worth (get_or xs i d)) ≡ tree join bits (λ i. of (row m i))
root_of_digests worth join of m digests xs k bits d are is high log =
    ap (λ n. tree join n (λ i. worth (get_or xs i d))) log
    ∙ tree_same join bits (λ i. worth (get_or xs i d)) (λ i. of (row m i)) (λ i l. ap (λ ys. worth (get_or ys i d)) is ∙ are.each i (omega (arith, l, high)) d)

-- matrices that are one are so with their rows in bit reversed order
pub reversed_alike : {E : Type 0} (n : ℕ) (a b : Matrix E) → a.height ≡ 2 ^ n → Same a b → Same (bit_reversal n a) (bit_reversal n b)
reversed_alike n a b high same = record {
  height = same.height;
  width = same.width;
  alike = λ i j p q. same.alike (rev n i) j (omega (arith, rev-lt n i, high)) q;
}

module _ {F : Type 0} (f : FieldMembers F) where
  row_values : (m : RowMajor F) → IsRowMajor m → (i : ℕ) → i < height m → map f.value (row m i) ≡ row_of (values_of f m) i
  row_values m whole i below =
      ap (map f.value) (part_by_index m.values (i * m.width) m.width f.zero (row_within i (height m) m.width (length m.values) below whole.full))
      ∙ map-map f.value (λ j. get_or m.values (i * m.width + j) f.zero) (range_with_len 0 m.width)

  -- rows of equal values
  rows_alike : (a b : RowMajor F) → IsRowMajor a → IsRowMajor b → Same (values_of f a) (values_of f b) → (i : ℕ)
      → i < height a → map f.value (row a i) ≡ map f.value (row b i)
  rows_alike a b whole other same i below =
      row_values a whole i below
      ∙ list_same ((values_of f a).entry i) ((values_of f b).entry i) a.width (λ j l. same.alike i j below l)
      ∙ ap (λ w. map ((values_of f b).entry i) (range_with_len 0 w)) same.width
      ∙ sym (row_values b other i (omega (arith, below, same.height)))

  -- two matrices with equal values have one root
  pub one_root : {V : Type 0} (join : V → V → V) (of : List F → V) → ((xs ys : List F) → map f.value xs ≡ map f.value ys → of xs ≡ of ys)
      → (k : ℕ) (a b : RowMajor F) → IsRowMajor a → IsRowMajor b → height a ≡ 2 ^ k → Same (values_of f a) (values_of f b)
      → tree join k (λ i. of (row a i)) ≡ tree join k (λ i. of (row b i))
  one_root join of law k a b whole other high same =
      tree_same join k (λ i. of (row a i)) (λ i. of (row b i)) (λ i l. law (row a i) (row b i) (rows_alike a b whole other same i (omega (arith, l, high))))
