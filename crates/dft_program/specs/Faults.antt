-- Why the program has no answer: the lines that tell it, and the first fault of several.
use Rattle.std.specs.Prelude.{ℕ, Bool, List, [], ◌∷◌, ◌++◌, codes, Option, Some, None, Result, Ok, Err, if◌then◌else◌}
use Rattle.dft_program.specs.declared.fault.Fault.{Fault}
use Rattle.dft_program.specs.declared.fault.Fault.TheVariants.{UnknownField, UnknownEngine, UnknownOperation}
use Rattle.dft_program.specs.declared.fault.Fault.TheVariants.{TooFewWords, NotANumber, NotBelowModulus, UnfitShape}
use Rattle.dft_program.specs.declared.fault.Fault.TheVariants.{NoInverse}

-- a text, and a line feed
abbrev pub ended : List ℕ → List ℕ
ended text = text ++ 10 ∷ []

abbrev pub line_of : Fault → List ℕ
line_of UnknownField = ended (codes "error 1: unknown field")
line_of UnknownEngine = ended (codes "error 2: unknown engine")
line_of UnknownOperation = ended (codes "error 3: unknown operation")
line_of TooFewWords = ended (codes "error 4: too few words")
line_of NotANumber = ended (codes "error 5: not a number")
line_of NotBelowModulus = ended (codes "error 6: number not below the modulus")
line_of UnfitShape = ended (codes "error 7: shape does not fit")
line_of NoInverse = ended (codes "error 8: shift has no inverse")

abbrev pub memory_line : List ℕ
memory_line = ended (codes "error 9: out of memory")

-- the first fault that is there
abbrev pub first_fault : List (Bool × Fault) → Option Fault
first_fault [] = None
first_fault (row ∷ rows) = if row.0 then Some row.1 else first_fault rows

-- the value, unless there is a fault
abbrev pub unless_fault : {T : Type 0} → Option Fault → T → Result T Fault
unless_fault None value = Ok value
unless_fault (Some fault) value = Err fault

-- the same with its value seen by view
abbrev pub seen : {X Y : Type 0} → (X → Y) → Result X Fault → Result Y Fault
seen view (Ok x) = Ok (view x)
seen view (Err fault) = Err fault

-- what follows, unless there is a fault
infixl 10 ◌>>=◌
abbrev pub ◌>>=◌ : {A B : Type 0} → Result A Fault → (A → Result B Fault) → Result B Fault
(Ok x) >>= f = f x
(Err fault) >>= f = Err fault
