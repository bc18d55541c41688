-- Tests of the elements of a list, seen by a function.
use Rattle.std.proofs.Common.{◌≡◌, ℕ, ◌<◌, Bool, true, false, ◌||◌, List, [], ◌∷◌, length, get_or, map, refl, sym, ap, ◌∙◌, nat_le, arith}
use Rattle.std.proofs.lemmas.Bool.Decides.{nat_tests}
use Rattle.std.specs.List.{list_any}
use Rattle.std.proofs.lemmas.List.Folds.{list_any_at}

module _ {X Y : Type 0} (test : Y → Bool) (f : X → Y) where
  any_mapped : (xs : List X) → list_any test (map f xs) ≡ list_any (λ x. test (f x)) xs
  any_mapped [] = refl
  any_mapped (x ∷ xs) = ap (λ b. test (f x) || b) (any_mapped xs)

  -- this one does
  pub passes_at : (xs : List X) (i : ℕ) (d : X) → i < length xs → test (f (get_or xs i d)) ≡ true → true ≡ list_any test (map f xs)
  passes_at xs i d h e = sym (any_mapped xs ∙ list_any_at (λ x. test (f x)) xs i d h e)

  -- where none passes, this one does not
  pub fails_at : (xs : List X) (i : ℕ) (d : X) → i < length xs → list_any test (map f xs) ≡ false → test (f (get_or xs i d)) ≡ false
  fails_at xs i d h none = by_cases (test (f (get_or xs i d))) refl
    where
      by_cases : (b : Bool) → test (f (get_or xs i d)) ≡ b → b ≡ false
      by_cases true e = absurd (cc (passes_at xs i d h e, none))
      by_cases false e = refl

-- a test is false unless it is true
pub false_unless : (b : Bool) → (b ≡ true → ⊥) → false ≡ b
false_unless true h = absurd (h refl)
false_unless false h = refl

-- and this one is below the bound that none reaches
pub all_below : {X : Type 0} (bound : ℕ) (f : X → ℕ) (xs : List X) (i : ℕ) (d : X) → i < length xs
    → list_any (λ n. nat_le bound n) (map f xs) ≡ false → f (get_or xs i d) < bound
all_below bound f xs i d h none =
    let fails : nat_le bound (f (get_or xs i d)) ≡ false = fails_at (λ n. nat_le bound n) f xs i d h none in
    grind (arith, nat_tests)
