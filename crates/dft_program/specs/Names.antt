-- The names of fields, engines and operations on the command line.
use Rattle.std.specs.Prelude.{ℕ, List, [], ◌∷◌, Option, Some, None, codes, if◌then◌else◌}
use Rattle.std.specs.Str.{bytes_eq}
use Rattle.dft_program.specs.declared.names.FieldName.{FieldName}
use Rattle.dft_program.specs.declared.names.FieldName.TheVariants as field
use Rattle.dft_program.specs.declared.names.EngineName.{EngineName}
use Rattle.dft_program.specs.declared.names.EngineName.TheVariants as engine
use Rattle.dft_program.specs.declared.names.Operation.{Operation}
use Rattle.dft_program.specs.declared.names.Operation.TheVariants as operation

-- what stands in the list behind the word
abbrev pub behind : {T : Type 0} → List ℕ → List (List ℕ × T) → Option T
behind word [] = None
behind word (row ∷ rows) = if bytes_eq word row.0 then Some row.1 else behind word rows

abbrev pub fields : List (List ℕ × FieldName)
fields =
    (codes "babybear", field.BabyBear)
    ∷ (codes "goldilocks", field.Goldilocks)
    ∷ []

abbrev pub engines : List (List ℕ × EngineName)
engines =
    (codes "naive", engine.Naive)
    ∷ (codes "dit", engine.Dit)
    ∷ (codes "bowers", engine.Bowers)
    ∷ (codes "parallel", engine.Parallel)
    ∷ (codes "small", engine.Small)
    ∷ []

abbrev pub operations : List (List ℕ × Operation)
operations =
    (codes "dft", operation.Dft)
    ∷ (codes "coset-dft", operation.CosetDft)
    ∷ (codes "idft", operation.Idft)
    ∷ (codes "coset-idft", operation.CosetIdft)
    ∷ (codes "lde", operation.Lde)
    ∷ (codes "coset-lde", operation.CosetLde)
    ∷ []

abbrev pub field_named : List ℕ → Option FieldName
field_named word = behind word fields

abbrev pub engine_named : List ℕ → Option EngineName
engine_named word = behind word engines

abbrev pub operation_named : List ℕ → Option Operation
operation_named word = behind word operations
