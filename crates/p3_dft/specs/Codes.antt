-- Reed-Solomon codes and their words.
use Rattle.std.specs.Prelude.{◌≡◌, ℕ, ◌+◌, ◌^◌, ◌<◌, ◌≤◌}
use Rattle.p3_field.specs.Ring.{IsInvertible}
use Rattle.p3_field.specs.declared.fields.Valued.{Ghosts as FieldMembers}
use Rattle.p3_matrix.specs.Matrix.{Matrix}
use Rattle.p3_matrix.specs.Cosets.{IsValues}

-- polynomials with 2 ^ log_message coefficients, on the coset of the shift of 2 ^ added_bits times as many points
pub record Code (F : Type 0) : Type 0 where
  pub log_message : ℕ
  pub added_bits : ℕ
  pub shift : F

-- there is a generator of so many points, a usize counts them, and the shift has an inverse
pub record IsCode {F : Type 0} (f : FieldMembers F) (two_adicity : ℕ) (code : Code F) : Type 0 where
  pub within : code.log_message + code.added_bits ≤ two_adicity
  pub size : 2 ^ (code.log_message + code.added_bits) < 2 ^ 64
  pub invertible : IsInvertible f.ring (f.value code.shift)

-- a code, and the engine that makes its words
pub record Encoder (F D : Type 0) : Type 0 where
  pub engine : D
  pub code : Code F

-- each column of m has the values, on the coset of s of order 2 ^ k, of a polynomial with h coefficients
pub record HasDegreeBelow {F : Type 0} (f : FieldMembers F) (generator : ℕ → F) (h k : ℕ) (s : f.Element) (m : Matrix f.Element) : Type 0 where
  pub coefficients : Matrix f.Element
  pub height : coefficients.height ≡ h
  pub values : IsValues f.ring (λ n. f.value (generator n)) coefficients k s m

-- each column of the word has the values of a polynomial of the code
abbrev pub IsCodeword : {F : Type 0} (f : FieldMembers F) → (ℕ → F) → Code F → Matrix f.Element → Type 0
IsCodeword f generator code = HasDegreeBelow f generator (2 ^ code.log_message) (code.log_message + code.added_bits) (f.value code.shift)
