-- Bounds on the growth that was refused.
use Rattle.std.proofs.Common.{ℕ, ◌≡◌, ◌≤◌, inl, inr, Result, Ok, Err, IfErr, IsErr, IsErrAnd, arith, le_refl, subst, sym}
use Rattle.p3_matrix.specs.declared.error.DftError.{DftError}
use Rattle.p3_matrix.specs.declared.error.DftError.TheVariants.{OutOfMemory}
use Rattle.p3_matrix.specs.Room.{IsWithin, IsWithinEither}

-- larger bounds hold too
pub within_larger : (s t n m : ℕ) → s ≤ t → n ≤ m → (e : DftError) → IsWithin s n e → IsWithin t m e
within_larger s t n m small less OutOfMemory within = λ bytes k large more. within bytes k (omega (arith, small, large)) (omega (arith, less, more))

pub within_more : (s n m : ℕ) → n ≤ m → (e : DftError) → IsWithin s n e → IsWithin s m e
within_more s n m less e within = within_larger s s n m (le_refl _) less e within

-- the error that `?` hands on is of the growth that the one before told of
pub room_of : {A : Type 0} (s : ℕ) (r : Result A DftError) (e : DftError) (n m : ℕ) → IsErr r × IsErrAnd r (λ y. y ≡ e)
    → n ≤ m → IsWithin s n e → IfErr r (IsWithin s m)
room_of s (Ok x) e n m told less within = tt
room_of s (Err y) e n m (err, same) less within = subst (IsWithin s m) (sym same) (within_more s n m less e within)

-- a larger bound on any answer
pub if_within_more : {A : Type 0} (s : ℕ) (r : Result A DftError) (n m : ℕ) → n ≤ m → IfErr r (IsWithin s n) → IfErr r (IsWithin s m)
if_within_more s (Ok x) n m less within = tt
if_within_more s (Err e) n m less within = within_more s n m less e within

-- with larger bounds of two kinds, where one or the other holds
module _ (s t n m : ℕ) (small : s ≤ t) (less : n ≤ m) where
  pub first_larger : (other i : ℕ) (e : DftError) → IsWithin s n e → IsWithinEither t m other i e
  first_larger other i e within = inl (within_larger s t n m small less e within)

  -- of any answer
  pub if_first : {A : Type 0} (other i : ℕ) (r : Result A DftError) → IfErr r (IsWithin s n) → IfErr r (IsWithinEither t m other i)
  if_first other i (Ok x) within = tt
  if_first other i (Err e) within = first_larger other i e within

  -- of the error that `?` hands on
  pub first_of : {A : Type 0} (other i : ℕ) (r : Result A DftError) (e : DftError) → IsErr r × IsErrAnd r (λ y. y ≡ e)
      → IsWithin s n e → IfErr r (IsWithinEither t m other i)
  first_of other i (Ok x) e told within = tt
  first_of other i (Err y) e (err, same) within = subst (IsWithinEither t m other i) (sym same) (first_larger other i e within)

  -- the same where both kinds have larger bounds
  module _ (other i more : ℕ) (fewer : i ≤ more) where
    pub either_larger : (e : DftError) → IsWithinEither s n other i e → IsWithinEither t m other more e
    either_larger e (inl within) = first_larger other more e within
    either_larger e (inr within) = inr (within_more other i more fewer e within)

    pub if_either : {A : Type 0} (r : Result A DftError) → IfErr r (IsWithinEither s n other i) → IfErr r (IsWithinEither t m other more)
    if_either (Ok x) within = tt
    if_either (Err e) within = either_larger e within

    pub either_of : {A : Type 0} (r : Result A DftError) (e : DftError) → IsErr r × IsErrAnd r (λ y. y ≡ e)
        → IsWithinEither s n other i e → IfErr r (IsWithinEither t m other more)
    either_of (Ok x) e told within = tt
    either_of (Err y) e (err, same) within = subst (IsWithinEither t m other more) (sym same) (either_larger e within)
