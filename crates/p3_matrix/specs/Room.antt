-- What an error tells of the growth that was refused.
use Rattle.std.specs.Prelude.{ℕ, ◌⊎◌}
use Rattle.growth.specs.Refusals.{WasRefused}
use Rattle.p3_matrix.specs.declared.error.DftError.{DftError}
use Rattle.p3_matrix.specs.declared.error.DftError.TheVariants.{OutOfMemory}

-- memory was refused to a vector that needed room for at most n elements of at most so many bytes each
abbrev pub IsWithin : ℕ → ℕ → DftError → Type 0
IsWithin bytes n OutOfMemory = WasRefused bytes n

-- memory was refused to one of two kinds of vectors, with the bounds of that kind
abbrev pub IsWithinEither : ℕ → ℕ → ℕ → ℕ → DftError → Type 0
IsWithinEither bytes n other_bytes m error = IsWithin bytes n error ⊎ IsWithin other_bytes m error

-- memory was refused to some vector
abbrev pub WasOutOfMemory : DftError → Type 0
WasOutOfMemory error = (bytes n other_bytes m : ℕ) × IsWithinEither bytes n other_bytes m error
