-- What an extension coset by coset leaves of an engine's tables.
use Rattle.std.specs.Prelude.{◌≡◌, ℕ, ◌≤◌, max, List}
use Rattle.p3_field.specs.declared.fields.Valued.{Ghosts as FieldMembers}
use Rattle.p3_matrix.specs.Cosets.{AddsCosets, Coset, HasCosets}

-- after an extension of 2 ^ k rows by a bits on the coset of s: no height above the input's was made prepared, tables
-- were added of the cosets of its slots alone, and none where all were there
pub record LeavesTables {F : Type 0} (f : FieldMembers F) (generator : ℕ → F) (k a : ℕ) (s : f.Element)
    (prepared more_prepared : ℕ) (cosets more_cosets : List (Coset F)) : Type 0 where
  pub only : more_prepared ≤ max prepared k
  pub adds : AddsCosets f generator k a s cosets more_cosets
  pub once : HasCosets f generator cosets k a s → more_cosets ≡ cosets
