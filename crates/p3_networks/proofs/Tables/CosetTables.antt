-- The table of a coset, as the halves of a network take it, and that tables stay.
use Rattle.p3_networks.proofs.Names.{◌≡◌, ℕ, ◌+◌, ◌-◌, ◌<◌, ◌≤◌, ◌^◌, ◌⊎◌, inl, inr, List, [], ◌∷◌, ◌++◌, length, get_or, refl, sym, ap, ◌∙◌, subst, arith}
use Rattle.p3_networks.proofs.Names.{length-append, ⊎_elim, cases_lt, le-leb, lt-leb, get_or_append_left, get_or-append_right, pow-add, power, power-mul}
use Rattle.p3_networks.proofs.Names.{AreHighTwiddles, AreLowTwiddles, Coset, HasCoset, IsCosetAt, IsCosetOf, mid_of, by_layer, IsCosetTable, coset_twiddles}
use Rattle.p3_networks.proofs.Names.{forward_root, layer_place}
use Rattle.p3_field.specs.declared.fields.Valued.{Ghosts as FieldMembers}

module _ {F : Type 0} (f : FieldMembers F) (generator : ℕ → F) (s : f.Element) (log : ℕ) (xs : List F) where
  -- the first half is on the coset of the power of the shift
  pub low_of_coset : (mid left : ℕ) → mid ≡ mid_of log → mid + left ≡ log → IsCosetTable f generator s log xs
      → AreLowTwiddles f (forward_root f generator) (power f.ring s (2 ^ left)) mid (by_layer f.zero xs)
  low_of_coset mid left half whole table l t below p =
      let root = forward_root f generator in
      let natural = lt-leb (mid_of log) l (omega (arith, below, half)) in
      let split : log - 1 - l ≡ left + (mid - 1 - l) = omega (arith, whole, below) in
      table.entries l t (omega (arith, whole, below)) p ∙ ap (λ r. coset_twiddles f root s log l (layer_place r l t)) natural
      ∙ ap (λ x. f.ring.mul x (power f.ring (root (l + 1)) t)) (ap (λ n. power f.ring s (2 ^ n)) split
      ∙ ap (power f.ring s) (pow-add 2 left (mid - 1 - l)) ∙ power-mul f.ring s (2 ^ left) (2 ^ (mid - 1 - l)))

  pub high_of_coset : (mid k : ℕ) → mid ≡ mid_of log → log ≡ k → IsCosetTable f generator s log xs
      → AreHighTwiddles f (forward_root f generator) s mid k (by_layer f.zero xs)
  high_of_coset mid k half same table =
      let root = forward_root f generator in
      subst (λ (n : ℕ). AreHighTwiddles f root s mid n (by_layer f.zero xs)) same
      (λ l b from below p. table.entries l b below p
      ∙ ap (λ r. coset_twiddles f root s log l (layer_place r l b))
      (le-leb (mid_of log) l (omega (arith, from, half))))

-- a coset keeps its table where one is added at the end
pub coset_kept : {F : Type 0} (f : FieldMembers F) (before after : List (Coset F)) (added : Coset F) (k : ℕ) (s : f.Element)
    → (after ≡ before) ⊎ (after ≡ before ++ added ∷ []) → HasCoset f before k s → HasCoset f after k s
coset_kept f before after added k s (inl same) has = subst (λ xs. HasCoset f xs k s) (sym same) has
coset_kept f before after added k s (inr longer) has =
    let (i, at) = has in
    subst (λ xs. HasCoset f xs k s) (sym longer) (
      i,
      (
        omega (arith, at.0, length-append before (added ∷ [])),
        λ d. subst (IsCosetOf f k s) (sym (get_or_append_left before (added ∷ []) d i at.0)) (at.1 d),
      ),
    )

-- the table that was read from a place, and the place that it was read from
pub coset_read : {F : Type 0} (f : FieldMembers F) (all : List (Coset F)) (k i : ℕ) (s : f.Element) (t : Coset F)
    → ((d : Coset F) → t ≡ get_or all i d) → IsCosetAt f all k s i → IsCosetOf f k s t
coset_read f all k i s t read at = subst (IsCosetOf f k s) (sym (read t)) (at.1 t)

pub coset_found : {F : Type 0} (f : FieldMembers F) (all : List (Coset F)) (k i : ℕ) (s : f.Element) (t : Coset F)
    → i < length all → ((d : Coset F) → t ≡ get_or all i d) → IsCosetOf f k s t → IsCosetAt f all k s i
coset_found f all k i s t inside read is = (inside, λ d. subst (IsCosetOf f k s) (read d) is)

module _ {F : Type 0} (f : FieldMembers F) (before : List (Coset F)) (added : Coset F) where
  -- a place of the longer list that is not its last is one of the list as it was
  pub place_before : (k : ℕ) (s : f.Element) (i : ℕ) → i < length before → IsCosetAt f (before ++ added ∷ []) k s i → IsCosetAt f before k s i
  place_before k s i less at = (less, λ d. subst (IsCosetOf f k s) (get_or_append_left before (added ∷ []) d i less) (at.1 d))

  -- the last has the one that was added
  pub last_place : (k : ℕ) (s : f.Element) (i : ℕ) → length before ≤ i → IsCosetAt f (before ++ added ∷ []) k s i → (i ≡ length before) × IsCosetOf f k s added
  last_place k s i more at =
      let longer = length-append before (added ∷ []) in
      let last : i ≡ length before = omega (arith, at.0, longer, more) in
      let read = get_or-append_right before (added ∷ []) (length before) i added refl more in
      let first : i - length before ≡ 0 = omega (arith, last) in
      (last, subst (IsCosetOf f k s) (read ∙ ap (λ (n : ℕ). get_or (added ∷ []) n added) first) (at.1 added))

-- no place from number n on has a coset: so it stays where another coset is added
pub none_behind_kept : {F : Type 0} (f : FieldMembers F) (before after : List (Coset F)) (added : Coset F) (k n : ℕ) (s : f.Element)
    → (after ≡ before) ⊎ (after ≡ before ++ added ∷ []) → ((f.value added.shift ≡ s) → ⊥) → ((i : ℕ) → n ≤ i → IsCosetAt f before k s i → ⊥)
    → (i : ℕ) → n ≤ i → IsCosetAt f after k s i → ⊥
none_behind_kept f before after added k n s (inl same) other none i from at = none i from (subst (λ xs. IsCosetAt f xs k s i) same at)
none_behind_kept f before after added k n s (inr longer) other none i from at =
    let here = subst (λ xs. IsCosetAt f xs k s i) longer at in
    ⊎_elim
    (λ less. none i from (place_before f before added k s i less here))
    (λ more. other (last_place f before added k s i more here).1.1)
    (cases_lt i (length before))
