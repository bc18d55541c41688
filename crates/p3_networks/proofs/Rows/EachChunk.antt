-- Work that is done on the chunks of a list, one after another.
use Rattle.p3_networks.proofs.Names.{◌≡◌, ℕ, ◌+◌, ◌*◌, ◌-◌, ◌/◌, ◌%◌, ◌<◌, ◌≤◌, List, length, get_or, take, drop, refl, sym, ap, ap₂, ◌∙◌, subst, arith, ⊎_elim}
use Rattle.p3_networks.proofs.Names.{cases_lt, drop-drop, ext_get_or, div-add-mod', div_below, mod_below, add-sub_cancel_left, Ring, poly, poly_same, part_at}
use Rattle.p3_networks.proofs.Names.{part_size, put_before, put_in, put_length, chunk_of, HoldsCells, MeetHalves}
use Rattle.p3_networks.proofs.Layers.Blocks.{row_below}
use Rattle.p3_networks.proofs.Layers.Halves.{block_room}
use borrow.Rule.Slice.PartMut.{drop_put, put_mid}

module _ {T : Type 0} (d : T) (size : ℕ) where
  pub chunk_at : (n i : ℕ) (xs : List T) → i < size → get_or (chunk_of size n xs) i d ≡ get_or xs (n * size + i) d
  chunk_at n i xs inside = part_at xs (n * size) size i d inside

  -- the chunk of a list whose entries there are those of a part
  chunk_is : (n : ℕ) (xs part : List T) → n * size + size ≤ length xs → length part ≡ size
      → ((i : ℕ) → i < size → get_or xs (n * size + i) d ≡ get_or part i d) → chunk_of size n xs ≡ part
  chunk_is n xs part room len same =
      let long = part_size xs (n * size) size room in
      ext_get_or d _ _ (long ∙ sym len) (λ i inside. let below : i < size = omega (arith, inside, long) in chunk_at n i xs below ∙ same i below)

  module _ (Takes : ℕ → List T → List T → Type 0) where
    -- the first n chunks are done, and the rest stays
    pub record ChunksDone (before : List T) (n : ℕ) (after : List T) : Type 0 where
      pub len : length after ≡ length before
      pub done : (p : ℕ) → p < n → Takes p (chunk_of size p before) (chunk_of size p after)
      pub rest : drop (n * size) after ≡ drop (n * size) before

    pub chunks_none : (before : List T) → ChunksDone before 0 before
    chunks_none before = record { len = refl; done = λ p none. absurd (omega arith); rest = refl }

    -- one chunk more
    pub chunks_next : (before now part : List T) (n : ℕ) → n * size + size ≤ length now → length part ≡ size
        → Takes n (take (n * size + size - n * size) (drop (n * size) now)) part
        → ChunksDone before n now → ChunksDone before (n + 1) (put_mid (n * size) (n * size + size - n * size) now part)
    chunks_next before now part n room len takes so_far =
        let m = add-sub_cancel_left (n * size) size in
        let after = put_mid (n * size) (n * size + size - n * size) now part in
        let begin : n * size ≤ length now = omega (arith, room) in
        let long : length after ≡ length now = put_length now part (n * size) _ (omega (arith, room, m)) (len ∙ sym m) in
        let next : (n + 1) * size ≡ n * size + size = omega arith in
        let was : take (n * size + size - n * size) (drop (n * size) now) ≡ chunk_of size n before =
        ap (λ k. take k (drop (n * size) now)) m ∙ ap (take size) so_far.rest in
        let is : chunk_of size n after ≡ part =
        chunk_is n after part (omega (arith, room, long)) len
        (λ i inside. put_in now part (n * size) _ i d begin (omega (arith, inside, len))) in
        record {
          len = long ∙ so_far.len;
          done = λ p below.
              ⊎_elim
              (λ less.
              let ends : p * size + size ≤ n * size = block_room p n size (n * size) less refl in
              let room_p : p * size + size ≤ length now = omega (arith, ends, begin) in
              let stays : chunk_of size p after ≡ chunk_of size p now =
              chunk_is p after (chunk_of size p now) (omega (arith, room_p, long))
              (part_size now (p * size) size room_p)
              (λ i inside. put_before now part (n * size) _ (p * size + i) d begin (omega (arith, inside, ends)) ∙ sym (chunk_at p i now inside)) in
              subst (Takes p (chunk_of size p before)) (sym stays) (so_far.done p less))
              (λ not_less. let same : n ≡ p = omega (arith, below, not_less) in
              subst (λ (q : ℕ). Takes q (chunk_of size q before) (chunk_of size q after)) same
              (subst (λ (xs : List T). Takes n xs (chunk_of size n after)) was
              (subst (Takes n (take (n * size + size - n * size) (drop (n * size) now))) (sym is) takes)))
              (cases_lt p n);
          rest = ap (λ k. drop k after) next ∙ drop_put (n * size) (n * size + size) now part (omega arith) room (len ∙ sym m)
              ∙ sym (drop-drop size (n * size) now) ∙ ap (drop size) so_far.rest ∙ drop-drop size (n * size) before ∙ ap (λ k. drop k before) (sym next);
        }

  -- what holds of chunks that are done, if less is said of each
  pub chunks_weaker : (P Q : ℕ → List T → List T → Type 0) (before : List T) (n : ℕ) (after : List T)
      → ((p : ℕ) (xs ys : List T) → p < n → P p xs ys → Q p xs ys) → ChunksDone P before n after → ChunksDone Q before n after
  chunks_weaker P Q before n after less so_far = record { len = so_far.len; done = λ p below. less p _ _ below (so_far.done p below); rest = so_far.rest }

  -- Where each chunk holds cells afterwards, if it held others before, so does the whole. The first cell of all is number `first`, and that of
  -- chunk n is `start n`, by its length.
  pub cells_of_chunks : {A : Type 0} (value_before value : T → A) (from to : ℕ → A) (first count : ℕ) (start : ℕ → ℕ → ℕ) (before after : List T)
      → 0 < size → length before ≡ count * size → length after ≡ length before → ((n : ℕ) → start n size ≡ first + n * size)
      → ((n : ℕ) → n < count → HoldsCells value_before d (start n (length (chunk_of size n before))) from (chunk_of size n before)
      → HoldsCells value d (start n (length (chunk_of size n before))) to (chunk_of size n after))
      → HoldsCells value_before d first from before → HoldsCells value d first to after
  cells_of_chunks value_before value from to first count start before after some whole len start_is each holds i inside =
      let n = i / size in
      let j = i % size in
      let place : n * size + j ≡ i = div-add-mod' i size in
      let below : n < count = div_below i size count some (omega (arith, inside, len, whole)) in
      let here : j < size = mod_below i size some in
      let room = block_room n count size (length before) below whole in
      let long : length (chunk_of size n before) ≡ size = part_size before (n * size) size room in
      let long_after : length (chunk_of size n after) ≡ size = part_size after (n * size) size (omega (arith, room, len)) in
      let cell : (u : ℕ) → start n (length (chunk_of size n before)) + u ≡ first + (n * size + u) =
      λ u. ap (λ k. k + u) (ap (start n) long ∙ start_is n) ∙ omega arith in
      let held = each n below
      (λ u within. let near : u < size = omega (arith, within, long) in
      ap value_before (chunk_at n u before near) ∙ holds (n * size + u) (omega (arith, near, room)) ∙ ap from (sym (cell u))) in
      ap (λ u. value (get_or after u d)) (sym place) ∙ ap value (sym (chunk_at n j after here))
      ∙ held j (omega (arith, here, long_after)) ∙ ap to (cell j ∙ ap (λ u. first + u) place)

  -- entry j of row t of a chunk of m rows of w entries, and of the whole
  pub row_at : (m w a t j : ℕ) (xs : List T) → size ≡ m * w → t < m → j < w → get_or (chunk_of size a xs) (t * w + j) d ≡ get_or xs ((a * m + t) * w + j) d
  row_at m w a t j xs is inside column =
      let flat : a * (m * w) + (t * w + j) ≡ (a * m + t) * w + j = omega arith in
      chunk_at a (t * w + j) xs (omega (arith, row_below t j w m inside column, is)) ∙ ap (λ n. get_or xs n d) (ap (λ s. a * s + (t * w + j)) is ∙ flat)

  -- Where row t of a chunk has a value of the columns of another list's chunk, whose coefficient q lies in row place q, so has it in the whole.
  -- The size of that chunk may have another name.
  pub row_taken : {A : Type 0} (R : Ring A) (value_before value : T → A) (m w : ℕ) (place : ℕ → ℕ) (long a t j : ℕ)
      (x : A) (before after : List T)
      → size ≡ m * w → long ≡ size → ((q : ℕ) → q < m → place q < m) → t < m → j < w
      → value (get_or (chunk_of size a after) (t * w + j) d) ≡ poly R m (λ q. value_before (get_or (chunk_of long a before) (place q * w + j) d)) x
      → value (get_or after ((a * m + t) * w + j) d) ≡ poly R m (λ q. value_before (get_or before ((a * m + place q) * w + j) d)) x
  row_taken R value_before value m w place long a t j x before after is as_long within inside column held =
      ap value (sym (row_at m w a t j after is inside column)) ∙ held
      ∙ poly_same R m _ _ x (λ q below. ap value_before (ap (λ s. get_or (chunk_of s a before) (place q * w + j) d) as_long
      ∙ row_at m w a (place q) j before is (within q below) column))

  -- where the halves of a chunk are made of those of another list's chunk, so are they in the whole
  pub halves_taken : {A : Type 0} (value : T → A) (near far : ℕ → A → A → A) (half long b : ℕ) (before after : List T) → long ≡ size → size ≡ 2 * half
      → MeetHalves half near far (λ i. value (get_or (chunk_of long b before) i d)) (λ i. value (get_or (chunk_of size b after) i d))
      → MeetHalves half near far (λ i. value (get_or before (b * size + i) d)) (λ i. value (get_or after (b * size + i) d))
  halves_taken value near far half long b before after as_long is met =
      let was : (k : ℕ) → k < size
      → value (get_or (chunk_of long b before) k d) ≡ value (get_or before (b * size + k) d) =
      λ k below. ap value (ap (λ s. get_or (chunk_of s b before) k d) as_long ∙ chunk_at b k before below) in
      record {
        near_cell =
            λ i inside. ap value (sym (chunk_at b i after (omega (arith, inside, is)))) ∙ met.near_cell i inside
            ∙ ap₂ (near i) (was i (omega (arith, inside, is))) (was (half + i) (omega (arith, inside, is)));
        far_cell =
            λ i inside. ap value (sym (chunk_at b (half + i) after (omega (arith, inside, is)))) ∙ met.far_cell i inside
            ∙ ap₂ (far i) (was i (omega (arith, inside, is))) (was (half + i) (omega (arith, inside, is)));
      }
