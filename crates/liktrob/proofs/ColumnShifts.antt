-- The shifts of columns, of which each is a step times the one before: that all have inverses is told by the last.
use Rattle.std.proofs.Common.{◌≡◌, ℕ, ◌+◌, ◌-◌, ◌<◌, ◌≤◌, Bool, true, false, List, IsErr, IsErrAnd, sym, ap, ap₂, ◌∙◌, subst, arith}
use Rattle.std.proofs.Common.{Option, Some, None, Result, Ok, Err}
use Rattle.std.specs.Prelude.{MatchBool, ⊤}
use Rattle.std.proofs.lemmas.Bool.{true≢false}
use Rattle.p3_field.specs.Ring.{IsInvertible, Ring, power}
use Rattle.p3_field.proofs.Powers.{power-add}
use Rattle.p3_matrix.specs.declared.error.DftError.{DftError}
use Rattle.p3_dft.specs.ColumnCosets.{column_shift}
use Rattle.liktrob.specs.declared.refusal.Refusal.{Refusal}
use Rattle.liktrob.specs.declared.refusal.Refusal.TheVariants.{Engine, Number, Shape, Shift, OutOfMemory}
use Rattle.liktrob.specs.Statuses.{Tells, refusal_of}
use Rattle.liktrob.specs.Words.{AreBelow, AreBelowWithStep, FieldInWords, HasInverse, HaveInverses, Names}
use Rattle.liktrob.proofs.Named.{named_inverse}

-- where a later column's shift has an inverse, so has each one before
earlier_invertible : {A : Type 0} (R : Ring A) (s t : A) (n j : ℕ) → j ≤ n → IsInvertible R (column_shift R s t n)
    → IsInvertible R (column_shift R s t j)
earlier_invertible R s t n j before (u, is) =
    let rest = power R t (n - j) in
    let all : j + (n - j) ≡ n = omega (arith, before) in
    let split : R.mul (power R t j) rest ≡ power R t n = sym (power-add R t j (n - j)) ∙ ap (power R t) all in
    let factors : R.mul (R.mul s (power R t j)) rest ≡ R.mul s (power R t n) = R.mul_assoc s (power R t j) rest ∙ ap (R.mul s) split in
    (R.mul rest u, sym (R.mul_assoc (R.mul s (power R t j)) rest u) ∙ ap (λ x. R.mul x u) factors ∙ is)

-- a refusal that is handed on
pub refusal_told : {A : Type 0} (engine numbers shape shift : Type 0) (memory : DftError → Type 0) (r : Result A Refusal) (e : Refusal)
    → IsErr r × IsErrAnd r (λ y. y ≡ e) → Tells (Some e) engine numbers shape shift memory → Tells (refusal_of r) engine numbers shape shift memory
refusal_told engine numbers shape shift memory (Ok x) e err told = absurd (true≢false (sym err.0))
refusal_told engine numbers shape shift memory (Err y) e err told =
    subst (λ (z : Refusal). Tells (Some z) engine numbers shape shift memory) (sym err.1) told

-- what is told of conditions is told of others that hold where they do
module _ (engine numbers numbers' shape shift shift' : Type 0) (memory : DftError → Type 0)
    (there : numbers → numbers') (back : numbers' → numbers) (on : shape → shift → shift') (undo : shape → shift' → shift) where
  tells_as : (o : Option Refusal) → Tells o engine numbers shape shift memory → Tells o engine numbers' shape shift' memory
  tells_as None (known, below, fits, has) = (known, there below, fits, on fits has)
  tells_as (Some Engine) unknown = unknown
  tells_as (Some Number) (known, above) = (known, λ below. above (back below))
  tells_as (Some Shape) (known, below, unfit) = (known, there below, unfit)
  tells_as (Some Shift) (known, below, fits, none) = (known, there below, fits, λ has. none (undo fits has))
  tells_as (Some (OutOfMemory error)) (known, below, fits, has, refused) = (known, there below, fits, on fits has, refused)

where_undone : {X Y : Type 0} (b c : Bool) → b ≡ c → (X → Y) → MatchBool b X ⊤ → MatchBool c Y ⊤
where_undone true true same map has = map has
where_undone true false same map has = tt
where_undone false true same map has = absurd (true≢false (sym same))
where_undone false false same map has = tt

-- the elements s and t that a shift and a step name, and the word that names the shift of the last of the columns
module _ {F W : Type 0} (f : FieldInWords F W)
    (one_value : (x y : f.members.Element) → f.members.number x ≡ f.members.number y → x ≡ y) (shift step last : W) (s t l : F)
    (named_shift : Names f shift s) (named_step : Names f step t) (named_last : Names f last l) (width n : ℕ)
    (last_is : f.members.value l ≡ column_shift f.members.ring (f.members.value s) (f.members.value t) n) (count : n ≡ width - 1) where
  pub all_invertible : HasInverse f last → (j : ℕ) → j < width
      → IsInvertible f.members.ring (column_shift f.members.ring (f.members.value s) (f.members.value t) j)
  all_invertible has j inside =
      let last_has : IsInvertible f.members.ring (f.members.value l) = named_inverse f one_value last l named_last has in
      earlier_invertible f.members.ring (f.members.value s) (f.members.value t) n j (omega (arith, inside, count))
      (subst (λ (x : f.members.Element). IsInvertible f.members.ring x) last_is last_has)

  have_inverses : HasInverse f last → HaveInverses f shift step width
  have_inverses has = (s, t, named_shift, named_step, all_invertible has)

  has_inverse : 1 ≤ width → HaveInverses f shift step width → HasInverse f last
  has_inverse some (x, y, named_x, named_y, all) =
      let R = f.members.ring in
      let v = f.members.value in
      let same_x : v x ≡ v s = one_value (v x) (v s) (sym named_x ∙ named_shift) in
      let same_y : v y ≡ v t = one_value (v y) (v t) (sym named_y ∙ named_step) in
      let same : column_shift R (v x) (v y) n ≡ v l = ap₂ (λ a b. column_shift R a b n) same_x same_y ∙ sym last_is in
      (l, named_last, subst (λ (z : f.members.Element). IsInvertible R z) same (all n (omega (arith, some, count))))

  -- what is told of the last column's shift is told of all columns
  pub told_by_columns : (engine shape : Type 0) (memory : DftError → Type 0) (words : List W) (o : Option Refusal) (undoes undoes' : Bool) → undoes ≡ undoes'
      → f.number shift < f.modulus → f.number step < f.modulus → f.number last < f.modulus → (shape → 1 ≤ width)
      → Tells o engine (AreBelow f last words) shape (MatchBool undoes (HasInverse f last) ⊤) memory
      → Tells o engine (AreBelowWithStep f step shift words) shape (MatchBool undoes' (HaveInverses f shift step width) ⊤) memory
  told_by_columns engine shape memory words o undoes undoes' same shift_below step_below last_below some told =
      tells_as engine (AreBelow f last words) (AreBelowWithStep f step shift words) shape
      (MatchBool undoes (HasInverse f last) ⊤) (MatchBool undoes' (HaveInverses f shift step width) ⊤) memory
      (λ below. (step_below, (shift_below, below.1))) (λ below. (last_below, below.1.1))
      (λ fits. where_undone undoes undoes' same have_inverses) (λ fits. where_undone undoes' undoes (sym same) (has_inverse (some fits))) o told
