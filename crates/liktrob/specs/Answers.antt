-- What is answered, in words.
use Rattle.std.specs.Prelude.{◌≡◌, ◌↔◌, ℕ, ◌+◌, ◌≤◌, Bool, true, false, List}
use Rattle.std.specs.List.{AllZip}
use Rattle.p3_field.specs.declared.fields.Valued.{Ghosts as FieldMembers}
use Rattle.p3_matrix.specs.BitOrder.{reversed_rows}
use Rattle.p3_matrix.specs.Cosets.{IsValues, point, values_of}
use Rattle.p3_matrix.specs.RowMajor.{RowMajor}
use Rattle.p3_dft.specs.Codes.{IsCodeword}
use Rattle.p3_dft.specs.ColumnCosets.{IsInterpolationByColumns, IsTransformByColumns, column_shift}
use Rattle.p3_dft.specs.Extensions.{IsExtension}
use Rattle.p3_dft.specs.Transforms.{IsInterpolation}
use Rattle.liktrob.specs.declared.engines.Direction.{Direction}
use Rattle.liktrob.specs.declared.engines.Direction.TheVariants.{ToValues, ToCoefficients}
use Rattle.liktrob.specs.declared.engines.Operation.{Operation}
use Rattle.liktrob.specs.declared.engines.Operation.TheVariants.{CosetDft, CosetIdft, CosetLde, CosetLdeBitReversed}
use Rattle.liktrob.specs.Words.{AreNamed, FieldInWords, Names}

-- by how many bits the answer is extended
abbrev pub added : Operation → ℕ
added (CosetDft a) = a
added CosetIdft = 0
added (CosetLde a) = a
added (CosetLdeBitReversed a) = a

-- the operation takes the shift's inverse
abbrev pub undoes : Operation → Bool
undoes (CosetDft a) = false
undoes CosetIdft = true
undoes (CosetLde a) = false
undoes (CosetLdeBitReversed a) = false

-- this direction takes the inverses of the columns' shifts
abbrev pub undoes_shifts : Direction → Bool
undoes_shifts ToValues = false
undoes_shifts ToCoefficients = true

-- of a matrix of 2 ^ k rows an operation answers: the values of its columns' polynomials on the coset of s of 2 ^ a times as many points,
-- the coefficients of the polynomials with these values, or their values on the larger coset, in natural or in bit reversed order
module _ {F : Type 0} (f : FieldMembers F) (generator : ℕ → F) where
  abbrev pub IsAnswer : Operation → RowMajor F → ℕ → f.Element → RowMajor F → Type 0
  IsAnswer (CosetDft a) m k s out = IsValues f.ring (λ n. f.value (generator n)) (values_of f m) (k + a) s (values_of f out)
  IsAnswer CosetIdft m k s out = IsInterpolation f generator m s out
  IsAnswer (CosetLde a) m k s out = IsExtension f generator m a s out
  IsAnswer (CosetLdeBitReversed a) m k s out = IsExtension f generator m a s (reversed_rows (k + a) out)

  -- where each column lies on the coset of its own shift: the values of its polynomial, or the coefficients of the one with these values
  abbrev pub IsAnswerByColumns : Direction → RowMajor F → (ℕ → f.Element) → RowMajor F → Type 0
  IsAnswerByColumns ToValues m shifts out = IsTransformByColumns f generator m shifts out
  IsAnswerByColumns ToCoefficients m shifts out = IsInterpolationByColumns f generator m shifts out

module _ {F W : Type 0} (f : FieldInWords F W) where
  -- the answer's words name what an operation answers of what words and a shift name
  pub record IsAnswered (operation : Operation) (words : List W) (width : ℕ) (shift : W) (answer : List W) : Type 0 where
    pub log : ℕ
    pub asked : RowMajor F
    pub by : F
    pub named : AreNamed f words width log shift asked by
    pub found : RowMajor F
    pub answers : IsAnswer f.members f.generator operation asked log (f.members.value by) found
    pub told : AllZip (Names f) answer found.values

  -- the answer is one where words name a codeword on the coset of the shift, with 2 ^ added_bits points for each coefficient, and else zero
  pub record IsToldCodeword (words : List W) (width added_bits : ℕ) (shift : W) (answer : ℕ) : Type 0 where
    pub log_message : ℕ
    pub word : RowMajor F
    pub by : F
    pub named : AreNamed f words width (log_message + added_bits) shift word by
    pub two_valued : answer ≤ 1
    pub exact : answer ≡ 1
        ↔ IsCodeword f.members f.generator (record { log_message = log_message; added_bits = added_bits; shift = by })
        (values_of f.members word)

  -- the answer's words name what words, with a shift and a step of the columns' shifts, become in this direction
  pub record IsAnsweredByColumns (direction : Direction) (words : List W) (width : ℕ) (shift step : W) (answer : List W) : Type 0 where
    pub log : ℕ
    pub asked : RowMajor F
    pub by : F
    pub then_by : F
    pub named : AreNamed f words width log shift asked by
    pub step_named : Names f step then_by
    pub found : RowMajor F
    pub answers : IsAnswerByColumns f.members f.generator direction asked
        (column_shift f.members.ring (f.members.value by) (f.members.value then_by)) found
    pub told : AllZip (Names f) answer found.values

  -- the answer names the point with this index of the coset of the shift of the subgroup of order 2 ^ bits
  pub record IsPoint (bits : ℕ) (shift : W) (index : ℕ) (answer : W) : Type 0 where
    pub by : F
    pub named : Names f shift by
    pub told : f.number answer
        ≡ f.members.number (point f.members.ring (λ n. f.members.value (f.generator n)) bits (f.members.value by) index)
