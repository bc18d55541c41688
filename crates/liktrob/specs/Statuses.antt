-- Statuses, and what each tells of a call.
use Rattle.std.specs.Prelude.{◌≡◌, ℕ, ◌+◌, ◌^◌, Option, Some, None, Result, Ok, Err}
use Rattle.std.specs.Borrow.{RattleType}
use Rattle.std.specs.Mem.{type_size}
use Rattle.p3_matrix.specs.Room.{IsWithinEither}
use Rattle.p3_matrix.specs.declared.error.DftError.{DftError}
use Rattle.p3_networks.specs.CosetTables.{coset_table_bytes}
use Rattle.liktrob.specs.declared.refusal.Refusal.{Refusal}
use Rattle.liktrob.specs.declared.refusal.Refusal.TheVariants.{Engine, Number, Shape, Shift, OutOfMemory}

-- the status of a call that was answered, or refused
abbrev pub status : Option Refusal → ℕ
status None = 0
status (Some Engine) = 1
status (Some Number) = 2
status (Some Shape) = 3
status (Some Shift) = 4
status (Some (OutOfMemory error)) = 5

-- why there is no answer, if there is none
abbrev pub refusal_of : {T : Type 0} → Result T Refusal → Option Refusal
refusal_of (Ok x) = None
refusal_of (Err refusal) = Some refusal

-- memory was refused to a vector of at most so many field elements, or to a list of the tables of an extension's cosets
abbrev pub IsOutOfMemory : RattleType → (entries added_bits : ℕ) → DftError → Type 0
IsOutOfMemory F entries added_bits = IsWithinEither (type_size F) entries (coset_table_bytes F) (2 ^ added_bits + 2)

-- what it tells of a call's conditions: the engine is there, numbers are below the modulus, the shape fits, and a shift that is undone has an inverse;
-- and where they hold and there is no answer, which memory was refused
abbrev pub Tells : Option Refusal → (engine numbers shape shift : Type 0) → (memory : DftError → Type 0) → Type 0
Tells None engine numbers shape shift memory = engine × numbers × shape × shift
Tells (Some Engine) engine numbers shape shift memory = ¬ engine
Tells (Some Number) engine numbers shape shift memory = engine × ¬ numbers
Tells (Some Shape) engine numbers shape shift memory = engine × numbers × ¬ shape
Tells (Some Shift) engine numbers shape shift memory = engine × numbers × shape × ¬ shift
Tells (Some (OutOfMemory error)) engine numbers shape shift memory = engine × numbers × shape × shift × memory error

-- the number is the status that tells which of the conditions is the first that fails, if one does
abbrev pub IsStatus : ℕ → (engine numbers shape shift : Type 0) → (memory : DftError → Type 0) → Type 0
IsStatus number engine numbers shape shift memory = (refusal : Option Refusal) × (number ≡ status refusal) × Tells refusal engine numbers shape shift memory
