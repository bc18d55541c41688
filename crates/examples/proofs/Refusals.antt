-- What the error that `?` hands on tells, of a growth and of a list of jobs.
use Rattle.std.proofs.Common.{ℕ, ◌≡◌, inl, inr, List, [], Result, Ok, Err, IfErr, IsErr, IsErrAnd, subst, sym}
use Rattle.p3_matrix.specs.declared.error.DftError.{DftError}
use Rattle.p3_matrix.specs.Room.{IsWithin, IsWithinEither, WasOutOfMemory}
use Rattle.p3_matrix.specs.RowMajor.{RowMajor}
use Rattle.p3_dft.specs.Engines.{EngineFacts}
use Rattle.p3_dft.specs.Jobs.{RanOut}
use Rattle.p3_dft.specs.declared.jobs.Job.{Job}
use Rattle.p3_dft.specs.declared.jobs.Job.TheVariants.{Dft}
use Rattle.p3_dft.specs.declared.jobs.JobsStopped.{JobsStopped}

-- the error of a refused growth
pub told_by_growth : {A : Type 0} (r : Result A DftError) (e : DftError) (bytes n : ℕ)
    → IsErr r × IsErrAnd r (λ y. y ≡ e) → IsWithin bytes n e → IfErr r WasOutOfMemory
told_by_growth (Ok answer) e bytes n told room = tt
told_by_growth (Err error) e bytes n told room = (bytes, n, 0, 0, inl (subst (IsWithin bytes n) (sym told.1) room))

-- the error of a call by an engine
pub told_by_either : {A : Type 0} (r : Result A DftError) (e : DftError) (bytes n other m : ℕ)
    → IsErr r × IsErrAnd r (λ y. y ≡ e) → IsWithinEither bytes n other m e → IfErr r WasOutOfMemory
told_by_either (Ok answer) e bytes n other m told room = tt
told_by_either (Err error) e bytes n other m told room = (bytes, n, other, m, subst (IsWithinEither bytes n other m) (sym told.1) room)

-- a job, where the bound wants one of a list that may have none
no_rows : {F : Type 0} → Job F
no_rows = Dft (record { values = []; width = 0 })

-- the error of a list of jobs
module _ {E F : Type 0} (facts : EngineFacts E F) (bytes matrix_bytes : ℕ) (after : E) (jobs : List (Job F)) (answers : List (RowMajor F)) where
  of_list : (e : DftError) → RanOut facts bytes matrix_bytes after jobs answers e → WasOutOfMemory e
  of_list e (inl within) = (_, _, 0, 0, inl within)
  of_list e (inr given) = (_, _, _, _, given no_rows)

  pub told_by_jobs : {A : Type 0} (r : Result A DftError) (e : DftError) → IsErr r × IsErrAnd r (λ y. y ≡ e)
      → RanOut facts bytes matrix_bytes after jobs answers e → IfErr r WasOutOfMemory
  told_by_jobs (Ok answer) e told room = tt
  told_by_jobs (Err error) e told room = of_list error (subst (RanOut facts bytes matrix_bytes after jobs answers) (sym told.1) room)

  -- the same with the answers before it
  pub told_by_stopped : {A : Type 0} (r : Result A (JobsStopped F)) (s : JobsStopped F)
      → IsErr r × IsErrAnd r (λ y. y ≡ s) → RanOut facts bytes matrix_bytes after jobs answers s.error
      → IfErr r (λ stopped. WasOutOfMemory stopped.error)
  told_by_stopped (Ok answer) s told room = tt
  told_by_stopped (Err stopped) s told room =
      of_list stopped.error
      (subst (λ (x : JobsStopped F). RanOut facts bytes matrix_bytes after jobs answers x.error) (sym told.1) room)
