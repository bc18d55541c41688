-- Pairs of entries that lie one after another, of which a pack has some: each is done by itself.
use Rattle.p3_networks.proofs.Names.{◌≡◌, ℕ, ◌+◌, ◌*◌, ◌-◌, ◌/◌, ◌%◌, ◌<◌, ◌≤◌, ◌++◌, List, length, get_or, map, take, drop, sym, ap, ◌∙◌, arith, rules, ⊎_elim}
use Rattle.p3_networks.proofs.Names.{cases_lt, get_or-map, places, div-add-mod', div_below, mod_below, chunk_of, MeetInPairs}
use Rattle.p3_networks.proofs.Layers.Halves.{in_first, in_second}
use Rattle.p3_networks.proofs.Rows.EachChunk.{chunk_at}

-- an entry of lists that are the same by their values
pub same_at : {T A : Type 0} (value : T → A) (d : T) (xs ys : List T) (i : ℕ) → length xs ≡ length ys → i < length xs
    → map value xs ≡ map value ys → value (get_or xs i d) ≡ value (get_or ys i d)
same_at value d xs ys i same inside is =
    sym (get_or-map value xs i d (value d) inside) ∙ ap (λ l. get_or l i (value d)) is ∙ get_or-map value ys i d (value d) (omega (arith, inside, same))

module _ {A T : Type 0} (value : T → A) (d : T) where
  -- an entry of a chunk
  entry_of_chunk : (size p k m : ℕ) (xs : List T) → k < size → p * size + k ≡ m → value (get_or (chunk_of size p xs) k d) ≡ value (get_or xs m d)
  entry_of_chunk size p k m xs inside place = ap value (chunk_at d size p k xs inside ∙ ap (λ n. get_or xs n d) place)

  -- where the pairs of each chunk meet by the twiddles of a chunk of another list, so do all
  pub pairs_of_chunks : (near far : A → A → A → A) (width count size : ℕ) (twiddles before after : List T) → 1 ≤ width → size ≡ 2 * width
      → ((n : ℕ) → n < count → MeetInPairs width (λ i. near (value (get_or (chunk_of width n twiddles) i d)))
      (λ i. far (value (get_or (chunk_of width n twiddles) i d)))
      (λ k. value (get_or (chunk_of size n before) k d)) (λ k. value (get_or (chunk_of size n after) k d)))
      → (all : ℕ) → all ≡ count * width
      → MeetInPairs all (λ i. near (value (get_or twiddles i d))) (λ i. far (value (get_or twiddles i d)))
      (λ k. value (get_or before k d)) (λ k. value (get_or after k d))
  pairs_of_chunks near far width count size twiddles before after some is each all whole =
      record {
        near_cell = λ i inside.
            sym (entry_of_chunk size (i / width) (2 * (i % width)) (2 * i) after (even_in i) (even_at i))
            ∙ (each (i / width) (pack i inside)).near_cell (i % width) (column i)
            ∙ (λ k. near (twiddle i k) (even i k) (odd i k));
        far_cell = λ i inside.
            sym (entry_of_chunk size (i / width) (2 * (i % width) + 1) (2 * i + 1) after (odd_in i) (odd_at i))
            ∙ (each (i / width) (pack i inside)).far_cell (i % width) (column i)
            ∙ (λ k. far (twiddle i k) (even i k) (odd i k));
      }
    where
      column : (i : ℕ) → i % width < width
      column i = mod_below i width some

      pack : (i : ℕ) → i < all → i / width < count
      pack i inside = div_below i width count some (omega (arith, inside, whole))

      even_in : (i : ℕ) → 2 * (i % width) < size
      even_in i = omega (arith, column i, is)

      odd_in : (i : ℕ) → 2 * (i % width) + 1 < size
      odd_in i = omega (arith, column i, is)

      even_at : (i : ℕ) → i / width * size + 2 * (i % width) ≡ 2 * i
      even_at i =
          ap (λ s. i / width * s + 2 * (i % width)) is
          ∙ (let spread : i / width * (2 * width) + 2 * (i % width) ≡ 2 * (i / width * width + i % width) =
          omega arith in
          spread)
          ∙ ap (λ k. 2 * k) (div-add-mod' i width)

      odd_at : (i : ℕ) → i / width * size + (2 * (i % width) + 1) ≡ 2 * i + 1
      odd_at i = let here = even_at i in omega (arith, here)

      twiddle : (i : ℕ) → value (get_or (chunk_of width (i / width) twiddles) (i % width) d) ≡ value (get_or twiddles i d)
      twiddle i = entry_of_chunk width (i / width) (i % width) i twiddles (column i) (div-add-mod' i width)

      even : (i : ℕ) → value (get_or (chunk_of size (i / width) before) (2 * (i % width)) d) ≡ value (get_or before (2 * i) d)
      even i = entry_of_chunk size (i / width) (2 * (i % width)) (2 * i) before (even_in i) (even_at i)

      odd : (i : ℕ) → value (get_or (chunk_of size (i / width) before) (2 * (i % width) + 1) d) ≡ value (get_or before (2 * i + 1) d)
      odd i = entry_of_chunk size (i / width) (2 * (i % width) + 1) (2 * i + 1) before (odd_in i) (odd_at i)

-- what is said of an entry of each pair of two parts is said of the pairs of the whole
module _ {A T : Type 0} (value : T → A) (d : T) (met : A → A → A → A) (full : ℕ) (ts ts_1 ts_2 before part_1 part_2 after_1 after_2 : List T)
    (t_front : ts_1 ≡ take full ts) (t_back : ts_2 ≡ drop full ts) (front : part_1 ≡ take (2 * full) before)
    (back : part_2 ≡ drop (2 * full) before) (size : length after_1 ≡ 2 * full) where
  in_front : (xs ys : List T) (n i : ℕ) → ys ≡ take n xs → i < n → value (get_or ys i d) ≡ value (get_or xs i d)
  in_front xs ys n i is inside = let here : get_or (take n xs) i d ≡ get_or xs i d = search (rules, places) in ap value (ap (λ l. get_or l i d) is ∙ here)

  in_back : (xs ys : List T) (n i : ℕ) → ys ≡ drop n xs → value (get_or ys i d) ≡ value (get_or xs (n + i) d)
  in_back xs ys n i is = let here : get_or (drop n xs) i d ≡ get_or xs (n + i) d = search (rules, places) in ap value (ap (λ l. get_or l i d) is ∙ here)

  pub joined : (place : ℕ → ℕ) → ((i : ℕ) → i < full → place i < 2 * full) → ((i : ℕ) → 2 * full + place i ≡ place (full + i))
      → ((i : ℕ) → i < full
      → value (get_or after_1 (place i) d)
      ≡ met (value (get_or ts_1 i d)) (value (get_or part_1 (2 * i) d)) (value (get_or part_1 (2 * i + 1) d)))
      → (n : ℕ) → ((i : ℕ) → full + i < n
      → value (get_or after_2 (place i) d)
      ≡ met (value (get_or ts_2 i d)) (value (get_or part_2 (2 * i) d)) (value (get_or part_2 (2 * i + 1) d)))
      → (i : ℕ) → i < n → value (get_or (after_1 ++ after_2) (place i) d)
      ≡ met (value (get_or ts i d)) (value (get_or before (2 * i) d)) (value (get_or before (2 * i + 1) d))
  joined place within beyond first n second i inside =
      ⊎_elim
      (λ less.
      ap value (in_first after_1 after_2 (place i) d (let p = within i less in omega (arith, p, size))) ∙ first i less
      ∙ (λ k. met (in_front ts ts_1 full i t_front less k) (in_front before part_1 (2 * full) (2 * i) front
      (omega (arith, less)) k) (in_front before part_1 (2 * full) (2 * i + 1) front (omega (arith, less)) k)))
      (λ not_less.
      let j = i - full in
      let is : full + j ≡ i = omega (arith, not_less) in
      let even : 2 * full + 2 * j ≡ 2 * i = omega (arith, is) in
      let odd : 2 * full + (2 * j + 1) ≡ 2 * i + 1 = omega (arith, is) in
      ap (λ m. value (get_or (after_1 ++ after_2) m d)) (sym (beyond j ∙ ap place is))
      ∙ ap value (in_second after_1 after_2 (2 * full) (place j) d size) ∙ second j (omega (arith, is, inside))
      ∙ (λ k. met ((in_back ts ts_2 full j t_back ∙ ap (λ m. value (get_or ts m d)) is) k)
      ((in_back before part_2 (2 * full) (2 * j) back ∙ ap (λ m. value (get_or before m d)) even) k)
      ((in_back before part_2 (2 * full) (2 * j + 1) back ∙ ap (λ m. value (get_or before m d)) odd) k)))
      (cases_lt i full)
