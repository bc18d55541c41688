-- The places of a query in its layers, and what is opened there.
use Rattle.std.proofs.Common.{◌≡◌, ◌↔◌, ◌⊎◌, inl, inr, ℕ, suc, ◌+◌, ◌-◌, ◌*◌, ◌/◌, ◌^◌, ◌<◌, ◌≤◌, Bool, false, IsTrue}
use Rattle.std.proofs.Common.{List, [], ◌∷◌, ◌++◌, length, get_or, refl, ap, subst, sym, ◌∙◌, arith}
use Rattle.std.proofs.Math.ListN.{get_or-append}
use Rattle.std.proofs.Math.Nat.{two-pow-succ}
use Rattle.std.proofs.lemmas.Bool.{cases_lt, false≢true}
use Rattle.std.proofs.lemmas.List.{get_or_push}
use Rattle.std.proofs.lemmas.Nat.{shr_below}
use Rattle.p3_field.specs.declared.fields.Valued.{Ghosts as FieldMembers}
use Rattle.p3_matrix.specs.BitOrder.{bit_reversal, rev}
use Rattle.p3_matrix.specs.Cosets.{values_of}
use Rattle.p3_matrix.specs.RowMajor.{IsRowMajor, RowMajor, height, row, rows_from}
use Rattle.p3_matrix.proofs.BitReversal.{rev-high, rev-low, rev-lt, rev-rev}
use Rattle.examples.specs.Foldings.{AreFoldedRows}
use Rattle.examples.specs.Fri.{FoldsTo}
use Rattle.examples.proofs.FoldedValues.{pair_same, row_value}
use Rattle.examples.proofs.MerkleTrees.{block_row}

-- a pair of the first layer is, in layer l, one of half as many for each layer before
pub place_inside : (log l index : ℕ) → l < log → 2 * index < 2 ^ log → index / 2 ^ l < 2 ^ (log - 1 - l)
place_inside log l index below inside =
    let m = log - 1 - l in
    let all : suc (m + l) ≡ log = omega (arith, below) in
    let whole : 2 * index < 2 ^ suc (m + l) = subst (λ n. 2 * index < 2 ^ n) (sym all) inside in
    shr_below index m l (omega (arith, whole, two-pow-succ (m + l)))

-- a list that has a place has an element
pub some_element : {X : Type 0} (xs : List X) (i : ℕ) → i < length xs → X
some_element [] i below = absurd (omega (arith, below))
some_element (x ∷ xs) i below = x

-- pair i of a codeword
module _ {F : Type 0} (f : FieldMembers F) (m : RowMajor F) (whole : IsRowMajor m) (k i : ℕ) (high : height m ≡ 2 ^ suc k) (below : i < 2 ^ k) where
  abbrev pair : RowMajor F
  pair = rows_from m (2 * i) 2

  rows_of_pair : (r : ℕ) → r < 2 → (height pair ≡ 2) × (row pair r ≡ row m (2 * i + r))
  rows_of_pair r inside =
      let twice = two-pow-succ k in
      let place : i * 2 ≡ 2 * i = omega arith in
      let low : i < height m / 2 = omega (arith, high, twice, below) in
      subst (λ n. (height (rows_from m n 2) ≡ 2) × (row (rows_from m n 2) r ≡ row m (n + r))) place (block_row f.zero m whole 2 i r low inside)

  pub height_of_pair : height pair ≡ 2
  height_of_pair = (rows_of_pair 0 (omega arith)).0

  -- its entries are those of its two rows
  pub entries_of_pair : IsRowMajor pair → (r j : ℕ) → r < 2 → j < m.width → (values_of f pair).entry r j ≡ (values_of f m).entry (2 * i + r) j
  entries_of_pair full r j inside in_row =
      let twice = two-pow-succ k in
      sym (row_value f pair r j _ full refl (omega (arith, inside, height_of_pair)) in_row)
      ∙ row_value f m (2 * i + r) j _ whole (rows_of_pair r inside).1 (omega (arith, inside, high, twice, below)) in_row

  -- and fold to row i of the next codeword
  pub pair_folds : (g : ℕ → f.Element) (beta s : f.Element) (next : RowMajor F) → IsRowMajor pair
      → AreFoldedRows f.ring g beta k s (bit_reversal (suc k) (values_of f m)) (bit_reversal k (values_of f next)) →
      FoldsTo f g k s beta i (values_of f pair) ((values_of f next).entry i)
  pair_folds g beta s next full folded j in_row =
      let back = rev-rev k i below in
      let near : rev (suc k) (rev k i) ≡ 2 * i + 0 = rev-low k (rev k i) (rev-lt k i) ∙ ap (λ n. 2 * n) back ∙ (let e : 2 * i ≡ 2 * i + 0 = omega arith in e) in
      let far : rev (suc k) (2 ^ k + rev k i) ≡ 2 * i + 1 = rev-high k (rev k i) (rev-lt k i) ∙ ap (λ n. 2 * n + 1) back in
      pair_same f.ring beta refl (ap (λ n. (values_of f m).entry n j) near ∙ sym (entries_of_pair full 0 j (omega arith) in_row))
      (ap (λ n. (values_of f m).entry n j) far ∙ sym (entries_of_pair full 1 j (omega arith) in_row)) (ap (λ n. (values_of f next).entry n j) back)
      (folded.rows (rev k i) j (rev-lt k i) in_row)

-- one more query was drawn and checked
pub one_more_query : {V : Type 0} (P : ℕ → V → Type 0) (indexes : List ℕ) (queries : List V) (n i : ℕ) (v : V) (was now : Bool) (Yes : Type 0)
    → length indexes ≡ n → ((d : V) → get_or queries n d ≡ v)
    → (IsTrue was ↔ ((q : ℕ) (d : V) → q < n → P (get_or indexes q 0) (get_or queries q d))) → (Yes ↔ P i v)
    → ((now ≡ was) × Yes) ⊎ ((now ≡ false) × (Yes → ⊥))
    → (IsTrue now ↔ ((q : ℕ) (d : V) → q < n + 1 → P (get_or (indexes ++ i ∷ []) q 0) (get_or queries q d)))
one_more_query {V} P indexes queries n i v was now Yes long here before one either = (forward either, λ all. backward all either)
  where
    first : (q : ℕ) → q < n → get_or (indexes ++ i ∷ []) q 0 ≡ get_or indexes q 0
    first q less = get_or-append indexes (i ∷ []) 0 q (omega (arith, less, long))

    last : get_or (indexes ++ i ∷ []) n 0 ≡ i
    last = get_or_push indexes i 0 n long

    forward : ((now ≡ was) × Yes) ⊎ ((now ≡ false) × (Yes → ⊥)) → IsTrue now → (q : ℕ) (d : V) → q < n + 1
        → P (get_or (indexes ++ i ∷ []) q 0) (get_or queries q d)
    forward (inr refused) true_now q d below = absurd (false≢true (sym refused.0 ∙ true_now))
    forward (inl taken) true_now q d below = cases (cases_lt q n)
      where
        cases : (q < n) ⊎ (n ≤ q) → P (get_or (indexes ++ i ∷ []) q 0) (get_or queries q d)
        cases (inl less) = subst (λ (k : ℕ). P k (get_or queries q d)) (sym (first q less)) (before.0 (sym taken.0 ∙ true_now) q d less)
        cases (inr more) =
            let same : n ≡ q = omega (arith, below, more) in
            subst (λ (k : ℕ). P (get_or (indexes ++ i ∷ []) k 0) (get_or queries k d)) same
            (subst (λ (k : ℕ). P k (get_or queries n d)) (sym last) (subst (P i) (sym (here d)) (one.0 taken.1)))

    backward : ((q : ℕ) (d : V) → q < n + 1 → P (get_or (indexes ++ i ∷ []) q 0) (get_or queries q d))
        → ((now ≡ was) × Yes) ⊎ ((now ≡ false) × (Yes → ⊥)) → IsTrue now
    backward all (inl taken) =
        taken.0 ∙ before.1 (λ q d less. subst (λ (k : ℕ). P k (get_or queries q d)) (first q less) (all q d (omega (arith, less))))
    backward all (inr refused) =
        let new = subst (λ (k : ℕ). P k (get_or queries n v)) last (all n v (omega arith)) in
        absurd (refused.1 (one.1 (subst (P i) (here v) new)))
