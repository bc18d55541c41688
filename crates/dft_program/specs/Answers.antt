-- The answers of operations: what a job answers, as text.
use Rattle.std.specs.Prelude.{◌≡◌, ℕ, List, map}
use Rattle.p3_matrix.specs.RowMajor.{RowMajor, IsRowMajor, rows}
use Rattle.p3_dft.specs.declared.jobs.Job.{Job}
use Rattle.p3_dft.specs.declared.jobs.Job.TheVariants as job
use Rattle.p3_dft.specs.Jobs.{IsAnswer}
use Rattle.dft_program.specs.declared.names.Operation.{Operation}
use Rattle.dft_program.specs.declared.names.Operation.TheVariants.{Dft, CosetDft, Idft, CosetIdft, Lde, CosetLde}
use Rattle.dft_program.specs.Arguments.{Arguments}
use Rattle.dft_program.specs.NumberedFields.{NumberedField, members}
use Rattle.dft_program.specs.Text.{text_of_rows}

-- the job of an operation on a matrix, with the added bits and the shift that some take
abbrev pub job_of : {F : Type 0} → Operation → RowMajor F → ℕ → F → Job F
job_of Dft m a s = job.Dft m
job_of CosetDft m a s = job.CosetDft m s
job_of Idft m a s = job.Idft m
job_of CosetIdft m a s = job.CosetIdft m s
job_of Lde m a s = job.Lde m a
job_of CosetLde m a s = job.CosetLde m a s

-- what an operation is asked for, in a field
abbrev pub asked_job : {A : Type 0} → NumberedField A → Operation → Arguments → Job A
asked_job f operation a = job_of operation (record { width = a.width; values = map f.element a.values }) a.added_bits (f.element a.shift)

-- the text has a line for each row of a matrix that answers the job
pub record IsText {A : Type 0} (f : NumberedField A) (asked : Job A) (text : List ℕ) : Type 0 where
  pub answer : RowMajor A
  pub whole : IsRowMajor answer
  pub answers : IsAnswer (members f) f.generator asked answer
  pub shown : text ≡ text_of_rows (map (map f.number) (rows answer))
