-- Lists of one element, lists that grow by one, and places in a list.
use Rattle.std.proofs.Common.{◌≡◌, ℕ, zero, suc, ◌+◌, ◌++◌, ◌<◌, List, [], ◌∷◌, length, get_or, take, drop, slice_set, refl, sym, ap, ◌∙◌, arith, ◌≤◌, subst}
use Rattle.std.proofs.lemmas.List.{append_assoc, take_more, take_all}

pub slice_set-single : {A : Type 0} (xs : List A) (x : A) → length xs ≡ 1 → slice_set xs 0 x ≡ x ∷ []
slice_set-single [] x one = absurd (omega (arith, one))
slice_set-single (y ∷ []) x one = refl
slice_set-single (y ∷ z ∷ zs) x one = absurd (omega (arith, one))

-- behind a list the first entries of another, and one more of these
pub taken_more : {A : Type 0} (before xs : List A) (i : ℕ) (x : A) → i < length xs → ((d : A) → x ≡ get_or xs i d)
    → (before ++ take i xs) ++ x ∷ [] ≡ before ++ take (i + 1) xs
taken_more before xs i x below is =
    append_assoc before (take i xs) (x ∷ []) ∙ ap (λ ys. before ++ ys) (ap (λ y. take i xs ++ y ∷ []) (is x) ∙ sym (take_more xs i x below))

pub single : {A : Type 0} (xs : List A) (x : A) → length xs ≡ 1 → x ≡ get_or xs 0 x → x ∷ [] ≡ xs
single [] x one is = absurd (omega (arith, one))
single (y ∷ []) x one is = ap (λ z. z ∷ []) is
single (y ∷ z ∷ zs) x one is = absurd (omega (arith, one))

pub all_taken : {A : Type 0} (i n m : ℕ) (xs : List A) → n ≤ i → n ≡ m → length xs ≡ m → take i xs ≡ xs
all_taken i n m xs end same long = take_all i xs (omega (arith, end, same, long))

-- a place below the length that a list has lies in the list
pub place_inside : {A : Type 0} (xs : List A) (i n : ℕ) → length xs ≡ n → i < n → i < length xs
place_inside xs i n long below = subst (λ k. i < k) (sym long) below

-- room for d more
pub room_made : (len d d' cap : ℕ) → d ≡ d' → len + d ≤ cap → len + d' ≤ cap + 0
room_made len d d' cap same room = omega arith

-- a list, entry by entry
abbrev pub entries : {A : Type 0} → ℕ → List A → A → List A
entries zero xs d = []
entries (suc n) xs d = get_or xs 0 d ∷ entries n (drop 1 xs) d

pub all_entries : {A : Type 0} (n : ℕ) (xs : List A) (d : A) → length xs ≡ n → xs ≡ entries n xs d
all_entries zero [] d long = refl
all_entries zero (x ∷ xs) d long = absurd (omega (arith, long))
all_entries (suc n) [] d long = absurd (omega (arith, long))
all_entries (suc n) (x ∷ xs) d long = ap (λ ys. x ∷ ys) (all_entries n xs d (omega (arith, long)))
