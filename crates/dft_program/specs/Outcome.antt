-- What the program writes for the words after its name, and the status that it ends with.
use Rattle.std.specs.Prelude.{◌≡◌, ◌⊎◌, ℕ, ◌+◌, List, drop, length, slice_get, Option, Some, None, Result, Ok, Err, Vec}
use Rattle.std.specs.Global.{Global}
use Rattle.std.specs.Option.{ok_or}
use Rattle.std.specs.Vec.{vec_items}
use Rattle.p3_field.specs.Fields.{baby_bear_numbers, goldilocks_numbers}
use Rattle.dft_program.specs.declared.fault.Fault.{Fault}
use Rattle.dft_program.specs.declared.fault.Fault.TheVariants.{UnknownField, UnknownEngine, UnknownOperation, TooFewWords}
use Rattle.dft_program.specs.declared.fault.Stopped.{Stopped}
use Rattle.dft_program.specs.declared.fault.Stopped.TheVariants.{ByFault, OutOfMemory}
use Rattle.dft_program.specs.Refusals.{RefusedWithin}
use Rattle.dft_program.specs.declared.names.FieldName.{FieldName}
use Rattle.dft_program.specs.declared.names.FieldName.TheVariants.{BabyBear, Goldilocks}
use Rattle.dft_program.specs.declared.names.Operation.{Operation}
use Rattle.dft_program.specs.declared.program.Request.{Request}
use Rattle.dft_program.specs.Answers.{IsText, asked_job}
use Rattle.dft_program.specs.Arguments.{Arguments, arguments}
use Rattle.dft_program.specs.Faults.{◌>>=◌, line_of}
use Rattle.dft_program.specs.Names.{field_named, engine_named, operation_named}
use Rattle.dft_program.specs.NumberedFields.{NumberedField, residue_field}
use Rattle.dft_program.specs.Words.{RefusedReading, Told, ToldAll}

-- what the word names, if it is there
abbrev pub named : {T : Type 0} → (List ℕ → Option T) → Fault → Option (List ℕ) → Result T Fault
named names unknown None = Err TooFewWords
named names unknown (Some word) = ok_or (names word) unknown

-- what the first three words name, or the first fault of them
abbrev pub asked : List (List ℕ) → Result Request Fault
asked words = do
  field ← named field_named UnknownField (slice_get words 0)
  engine ← named engine_named UnknownEngine (slice_get words 1)
  operation ← named operation_named UnknownOperation (slice_get words 2)
  Ok (record { field = field; engine = engine; operation = operation })

pub record Outcome : Type 0 where
  pub status : ℕ
  pub text : List ℕ

-- the outcome of a fault: its line with status 2
abbrev pub told : Fault → Outcome
told fault = record { status = 2; text = line_of fault }

-- the outcome is the first fault's, and where there is none one that follows from what was read
abbrev pub FaultOr : {T : Type 0} → Result T Fault → (T → Outcome → Type 0) → Outcome → Type 0
FaultOr (Ok read) follows o = follows read o
FaultOr (Err fault) follows o = o ≡ told fault

-- the text of an answer with status 0
abbrev pub IsAnswered : {A : Type 0} → NumberedField A → Operation → Arguments → Outcome → Type 0
IsAnswered f operation a o = (o.status ≡ 0) × IsText f (asked_job f operation a) o.text

-- the outcome, in a field, of the words behind the operation's name
abbrev pub IsOutcomeOver : {A : Type 0} → NumberedField A → Operation → List (List ℕ) → Outcome → Type 0
IsOutcomeOver f operation words o = FaultOr (arguments f operation words) (IsAnswered f operation) o

-- the same in the field of this name, whichever engine finds it
abbrev pub IsOutcomeIn : FieldName → Operation → List (List ℕ) → Outcome → Type 0
IsOutcomeIn BabyBear operation words o = IsOutcomeOver (residue_field baby_bear_numbers) operation words o
IsOutcomeIn Goldilocks operation words o = IsOutcomeOver (residue_field goldilocks_numbers) operation words o

-- the outcome of the words after the program's name
abbrev pub IsOutcome : List (List ℕ) → Outcome → Type 0
IsOutcome words o = FaultOr (asked words) (λ request. IsOutcomeIn request.field request.operation (drop 3 words)) o

-- it is an answer, and memory was refused to a vector that needed room for at most two elements more than its text has bytes
abbrev pub IsRefusedAnswer : Outcome → Type 0
IsRefusedAnswer o = (o.status ≡ 0) × RefusedWithin (length o.text + 2)

-- the words have one outcome, which is such an answer
abbrev pub HaveRefusedAnswer : List (List ℕ) → Type 0
HaveRefusedAnswer words = (o : Outcome) × IsOutcome words o × ((p : Outcome) → IsOutcome words p → p ≡ o) × IsRefusedAnswer o

-- What a function returned is an outcome; where memory ran out, each outcome is an answer that was refused.
abbrev pub Gives : Result (Vec ℕ Global) Stopped → (Outcome → Type 0) → Type 0
Gives (Ok text) IsOne = IsOne (record { status = 0; text = vec_items text })
Gives (Err (ByFault fault)) IsOne = IsOne (told fault)
Gives (Err OutOfMemory) IsOne = (o : Outcome) → IsOne o → IsRefusedAnswer o

-- memory was refused while words were read, or once all were, and these have an answer
abbrev pub RanOut : List Told → List Told → ℕ → Type 0
RanOut old new too_short = RefusedReading old new too_short ⊎ ((words : List (List ℕ)) × ToldAll old new words × HaveRefusedAnswer words)
