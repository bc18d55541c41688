-- Words and elements that are gone through side by side, each word naming the element in its place.
use Rattle.std.proofs.Common.{◌≡◌, ℕ, ◌+◌, ◌<◌, Bool, true, false, IsTrue, ◌&&◌, List, [], ◌∷◌, ◌++◌, length, get_or, set, take, refl, sym, ◌∙◌, subst}
use Rattle.std.proofs.Common.{IfErr, IsErr, IsErrAnd, ◌≤◌, arith, inl, inr, Option, Some, None, Result, Ok, Err, is_none, is_some}
use Rattle.std.specs.Prelude.{MatchBool}
use Rattle.std.specs.List.{AllZip}
use Rattle.std.proofs.lemmas.Bool.{true≢false}
use Rattle.std.proofs.lemmas.List.{take_more, take_more_set}
use Rattle.std.proofs.lemmas.Slice.Zip.{all_zipped_more}
use Rattle.p3_field.specs.Ring.{IsInvertible}
use Rattle.p3_matrix.specs.declared.error.DftError.{DftError}
use Rattle.p3_matrix.specs.Room.{IsWithinEither}
use Rattle.p3_matrix.proofs.Rooms.{within_larger}
use Rattle.liktrob.specs.declared.refusal.Refusal.{Refusal}
use Rattle.liktrob.specs.declared.refusal.Refusal.TheVariants.{OutOfMemory}
use Rattle.liktrob.specs.Statuses.{Tells, refusal_of}
use Rattle.liktrob.specs.Words.{FieldInWords, HasInverse, Names}

module _ {W X : Type 0} (R : W → X → Type 0) (words : List W) (xs : List X) (i : ℕ) where
  -- one more element is read
  pub one_read : (x : X) (d : W) → i < length words → AllZip R (take i words) xs → R (get_or words i d) x → AllZip R (take (i + 1) words) (xs ++ x ∷ [])
  one_read x d in_words before named = rw (take_more words i d in_words) (all_zipped_more R (take i words) xs (get_or words i d) x before named)

  -- one more word is written
  pub one_written : (w : W) (d : X) → i < length words → i < length xs → AllZip R (take i words) (take i xs) → R w (get_or xs i d)
      → AllZip R (take (i + 1) (set words i w)) (take (i + 1) xs)
  one_written w d in_words in_xs before named =
      rw (take_more_set words i w in_words, take_more xs i d in_xs) (all_zipped_more R (take i words) (take i xs) w (get_or xs i d) before named)

-- where both tests passed
pub both : (s t : Bool) → IsTrue (s && t) → IsTrue s × IsTrue t
both true t h = (refl, h)
both false t h = absurd (true≢false (sym h))

-- an element has an inverse where a shift that names it does
pub named_inverse : {F W : Type 0} (f : FieldInWords F W)
    → ((x y : f.members.Element) → f.members.number x ≡ f.members.number y → x ≡ y) → (shift : W) (s : F)
    → Names f shift s
    → HasInverse f shift → IsInvertible f.members.ring (f.members.value s)
named_inverse f one_value shift s named has =
    subst (λ (x : f.members.Element). IsInvertible f.members.ring x) (one_value (f.members.value has.0) (f.members.value s) (sym has.1 ∙ named)) has.2

-- what is told of a test holds where it did not fail
pub found_where_some : {A : Type 0} (o : Option A) (P : Type 0) → is_none o ≡ false → MatchBool (is_some o) P (P → ⊥) → P
found_where_some (Some x) P some told = told
found_where_some None P some told = absurd (true≢false some)

-- an engine that keeps no list of tables tells of field elements, as one with tables does
pub without_tables : {A : Type 0} (s n m bytes more : ℕ) (r : Result A DftError) → m ≤ more → IfErr r (IsWithinEither s n 0 m)
    → IfErr r (IsWithinEither s n bytes more)
without_tables s n m bytes more (Ok x) fewer within = tt
without_tables s n m bytes more (Err e) fewer (inl within) = inl within
without_tables s n m bytes more (Err e) fewer (inr within) = inr (within_larger 0 bytes m more (omega arith) fewer e within)

-- no condition failed, and memory was refused: the error that `?` hands on tells so
pub out_of_memory_told : {A : Type 0} (r : Result A Refusal) (e : DftError) (memory : DftError → Type 0)
    {engine numbers shape shift : Type 0}
    → IsErr r × IsErrAnd r (λ y. y ≡ OutOfMemory e) → engine → numbers → shape → shift
    → memory e → Tells (refusal_of r) engine numbers shape shift memory
out_of_memory_told (Ok x) e memory err known_engine known_numbers known_shape known_shift refused = (known_engine, known_numbers, known_shape, known_shift)
out_of_memory_told (Err y) e memory {engine} {numbers} {shape} {shift} err known_engine known_numbers known_shape known_shift refused =
    subst (λ (z : Refusal). Tells (refusal_of {T = ℕ} (Err z)) engine numbers shape shift memory) (sym err.1)
    (known_engine, known_numbers, known_shape, known_shift, refused)
