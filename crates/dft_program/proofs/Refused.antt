-- Evidence of a growth that was refused.
use Rattle.std.proofs.Common.{◌≡◌, ℕ, ◌+◌, ◌*◌, ◌^◌, ◌≤◌, sym, subst, arith, inl, inr, Result, Ok, Err, IfErr, IsErr}
use Rattle.std.proofs.Common.{IsErrAnd, OnErr, le_refl, le_trans, pow_pos}
use Rattle.std.proofs.Math.Nat.{mul-le-mul_left, mul-le-mul_right}
use Rattle.std.proofs.lemmas.Result.{IfErr-at_err}
use Rattle.growth.specs.Refusals.{WasRefused}
use Rattle.p3_matrix.specs.Room.{IsWithin, IsWithinEither}
use Rattle.p3_matrix.proofs.Rooms.{if_either}
use Rattle.p3_matrix.specs.declared.error.DftError.{DftError}
use Rattle.p3_matrix.specs.declared.error.DftError.TheVariants.{OutOfMemory}
use Rattle.p3_matrix.specs.RowMajor.{RowMajor, height}
use Rattle.p3_dft.specs.Engines.{AfterDft, AfterLde, EngineFacts}
use Rattle.p3_dft.specs.Jobs.{answer_entries}
use Rattle.p3_dft.specs.Shapes.{FitsLde}
use Rattle.p3_dft.specs.declared.jobs.Job.{Job}
use Rattle.dft_program.specs.Refusals.{RefusedWithin}

-- few small elements are within larger bounds
pub told_by : (bytes n m : ℕ) → bytes ≤ 64 → n ≤ m → WasRefused bytes n → RefusedWithin m
told_by bytes n m small fewer was = λ more k larger most. was more k (le_trans small larger) (le_trans fewer most)

pub refused_more : (n m : ℕ) → n ≤ m → RefusedWithin n → RefusedWithin m
refused_more n m fewer was = told_by 64 n m (le_refl _) fewer was

pub refused_by : {T E : Type 0} (r : Result T E) (bytes n m : ℕ) → bytes ≤ 64 → n ≤ m → WasRefused bytes n → OnErr r (RefusedWithin m)
refused_by (Ok value) bytes n m small fewer was = tt
refused_by (Err error) bytes n m small fewer was = told_by bytes n m small fewer was

-- of a text's bytes
pub bytes_refused : {T E : Type 0} (r : Result T E) (n m : ℕ) → n ≤ m → OnErr r (WasRefused 1 n) → OnErr r (RefusedWithin m)
bytes_refused (Ok value) n m fewer was = tt
bytes_refused (Err error) n m fewer was = told_by 1 n m (omega arith) fewer was

-- that of an engine's error
within_refused : (bytes n m : ℕ) → bytes ≤ 64 → n ≤ m → (e : DftError) → IsWithin bytes n e → RefusedWithin m
within_refused bytes n m small fewer OutOfMemory was = told_by bytes n m small fewer was

pub either_refused : {A : Type 0} (bytes n other tables m : ℕ) → bytes ≤ 64 → n ≤ m → other ≤ 64 → tables ≤ m
    → (r : Result A DftError) → IfErr r (IsWithinEither bytes n other tables) → OnErr r (RefusedWithin m)
either_refused bytes n other tables m small fewer small_too few_tables (Ok value) within = tt
either_refused bytes n other tables m small fewer small_too few_tables (Err e) (inl within) = within_refused bytes n m small fewer e within
either_refused bytes n other tables m small fewer small_too few_tables (Err e) (inr within) =
    within_refused other tables m small_too few_tables e within

-- the error that `?` hands on
pub handed_on : {A B : Type 0} (P : DftError → Type 0) (r : Result A DftError) (e : DftError) (s : Result B DftError) → r ≡ Err e
    → IsErr s × IsErrAnd s (λ y. y ≡ e) → IfErr r P → IfErr s P
handed_on P r e (Ok x) was told within = tt
handed_on P r e (Err y) was (err, same) within = subst P (sym same) (IfErr-at_err P was within)

-- memory was refused to the call for a job: of a list of tables, that may have as many more as the answer has entries, and one
abbrev pub JobRefused : {E F : Type 0} → EngineFacts E F → ℕ → E → Job F → DftError → Type 0
JobRefused facts bytes before job = IsWithinEither bytes (answer_entries job) facts.table_bytes (facts.tables before + answer_entries job + 1)

-- a shape that fits has an entry
some_entry : (bits h w a : ℕ) → FitsLde bits h w a → 1 ≤ h * w
some_entry bits h w a fits =
    let high : 1 ≤ h = rw fits.height (pow_pos fits.log) in
    let wide : h * 1 ≤ h * w = mul-le-mul_left h fits.width in
    omega (arith, high, wide)

times_some : (n m : ℕ) → 1 ≤ m → n ≤ m * n
times_some n m some = let more : 1 * n ≤ m * n = mul-le-mul_right n some in omega (arith, more)

one_more : (before after entries : ℕ) → after ≤ before + 1 → after ≤ before + entries + 1
one_more before after entries few = omega (arith, few)

cosets_more : (before after cosets entries : ℕ) → after ≤ before + (cosets + 1) → cosets ≤ entries → after ≤ before + entries + 1
cosets_more before after cosets entries few fewer = omega (arith, few, fewer)

module _ {A E F : Type 0} (facts : EngineFacts E F) (bytes : ℕ) (job : Job F) (m : RowMajor F) (a b : E) (r : Result A DftError) where
  abbrev entries : ℕ
  entries = height m * m.width

  -- a transform adds one table
  dft_within : (more : ℕ) → AfterDft facts bytes a b r m more → IfErr r (IsWithinEither bytes entries facts.table_bytes (facts.tables a + entries + 1))
  dft_within more call =
      if_either bytes bytes entries entries (le_refl _) (le_refl _) facts.table_bytes (facts.tables b)
      (facts.tables a + entries + 1) (one_more (facts.tables a) (facts.tables b) entries call.tables) r call.refused

  pub dft_refused : (more : ℕ) → answer_entries job ≡ entries → AfterDft facts bytes a b r m more → IfErr r (JobRefused facts bytes a job)
  dft_refused more same call =
      subst (λ (n : ℕ). IfErr r (IsWithinEither bytes n facts.table_bytes (facts.tables a + n + 1))) (sym same) (dft_within more call)

  -- an extension one for each coset, and one
  pub lde_refused : (bits added : ℕ) → FitsLde bits (height m) m.width added → answer_entries job ≡ entries * 2 ^ added
      → AfterLde facts bytes a b r m added → IfErr r (JobRefused facts bytes a job)
  lde_refused bits added fits same call =
      let cosets : 2 ^ added ≤ entries * 2 ^ added = times_some (2 ^ added) entries (some_entry bits (height m) m.width added fits) in
      subst (λ (n : ℕ). IfErr r (IsWithinEither bytes n facts.table_bytes (facts.tables a + n + 1))) (sym same)
      (if_either bytes bytes (entries * 2 ^ added) (entries * 2 ^ added) (le_refl _) (le_refl _) facts.table_bytes (facts.tables b)
      (facts.tables a + entries * 2 ^ added + 1)
      (cosets_more (facts.tables a) (facts.tables b) (2 ^ added) (entries * 2 ^ added) call.tables cosets) r call.refused)
