-- Low degree extensions: from the values of polynomials on a subgroup their values on a coset of a larger one.
use Rattle.std.specs.Prelude.{◌≡◌, ℕ, ◌+◌, ◌*◌, ◌^◌}
use Rattle.p3_field.specs.declared.fields.Valued.{Ghosts as FieldMembers}
use Rattle.p3_matrix.specs.BitOrder.{bit_reversal}
use Rattle.p3_matrix.specs.Matrix.{Matrix, Same}
use Rattle.p3_matrix.specs.RowMajor.{HasShapeOf, RowMajor, IsRowMajor, height, with_zeros}
use Rattle.p3_matrix.specs.Cosets.{IsValues, AreCoefficients, values_of}
use Rattle.p3_dft.specs.declared.traits.Layout.{Layout}
use Rattle.p3_dft.specs.declared.traits.Layout.TheVariants.{Natural, BitReversed}

-- the 2 ^ k rows of a matrix in the order of a layout
abbrev pub arrangement : {E : Type 0} → Layout → ℕ → Matrix E → Matrix E
arrangement Natural k m = m
arrangement BitReversed k m = bit_reversal k m

-- a transform may be called on every matrix of m's shape
abbrev pub IsCallable : {F : Type 0} (m : RowMajor F) (may_be_called : RowMajor F → Type 0) → Type 0
IsCallable {F} m may_be_called = (n : RowMajor F) → IsRowMajor n → HasShapeOf n m → may_be_called n

-- and keeps that shape
abbrev pub KeepsShape : {F : Type 0} (m : RowMajor F) (may_answer : RowMajor F → RowMajor F → Type 0) → Type 0
KeepsShape {F} m may_answer = (n out : RowMajor F) → IsRowMajor n → HasShapeOf n m → may_answer n out → HasShapeOf out m

module _ {F : Type 0} (f : FieldMembers F) (generator : ℕ → F) where
  -- row i of out has the values, at point i of the coset of s of 2 ^ a times as many points, of the polynomials whose
  -- values on the subgroup are the columns of m
  pub record AreExtendedValues (m : RowMajor F) (a : ℕ) (s : f.Element) (out : Matrix f.Element) : Type 0 where
    pub coefficients : Matrix f.Element
    pub are_coefficients : (k : ℕ) → height m ≡ 2 ^ k → AreCoefficients f.ring (λ n. f.value (generator n)) (values_of f m) k f.ring.one coefficients
    pub extended : (k : ℕ) → height m ≡ 2 ^ k → IsValues f.ring (λ n. f.value (generator n)) coefficients (k + a) s out

  -- the same of a stored matrix
  abbrev pub IsExtension : RowMajor F → ℕ → f.Element → RowMajor F → Type 0
  IsExtension m a s out = AreExtendedValues m a s (values_of f out)

  -- out has the same of the polynomials that a transform made of those: called with the coefficients in a layout it may answer the changed ones in that layout
  pub record AreTransformedValues (may_answer : RowMajor F → Layout → RowMajor F → Type 0) (layout : Layout)
      (m : RowMajor F) (a : ℕ) (s : f.Element) (out : Matrix f.Element) : Type 0 where
    pub coefficients : Matrix f.Element
    pub are_coefficients : (k : ℕ) → height m ≡ 2 ^ k → AreCoefficients f.ring (λ n. f.value (generator n)) (values_of f m) k f.ring.one coefficients
    pub told : RowMajor F
    pub told_whole : IsRowMajor told
    pub told_in_layout : (k : ℕ) → height m ≡ 2 ^ k → Same (values_of f told) (arrangement layout k coefficients)
    pub answered : RowMajor F
    pub answered_whole : IsRowMajor answered
    pub called : may_answer told layout answered
    pub changed : Matrix f.Element
    pub answered_in_layout : (k : ℕ) → height m ≡ 2 ^ k → Same (values_of f answered) (arrangement layout k changed)
    pub extended : (k : ℕ) → height m ≡ 2 ^ k → IsValues f.ring (λ n. f.value (generator n)) changed (k + a) s out

  -- the same of a stored matrix
  abbrev pub IsTransformedExtension : (RowMajor F → Layout → RowMajor F → Type 0) → Layout → RowMajor F → ℕ → f.Element → RowMajor F → Type 0
  IsTransformedExtension may_answer layout m a s out = AreTransformedValues may_answer layout m a s (values_of f out)

  -- above rows of zeros, which make out 2 ^ a times as high, it has what a transform may answer that is called with the coefficients of m in bit reversed order
  pub record IsAnswerOverZeros (may_answer : RowMajor F → RowMajor F → Type 0) (m : RowMajor F) (a : ℕ) (out : RowMajor F) : Type 0 where
    pub told : RowMajor F
    pub are_coefficients : (k : ℕ) → height m ≡ 2 ^ k
        → AreCoefficients f.ring (λ n. f.value (generator n)) (values_of f m) k f.ring.one
        (bit_reversal k (values_of f told))
    pub told_whole : IsRowMajor told
    pub answered : RowMajor F
    pub answered_whole : IsRowMajor answered
    pub called : may_answer told answered
    pub kept : HasShapeOf answered m
    pub over_zeros : out ≡ with_zeros f.zero answered a

-- how many products an extension of 2 ^ k rows of w entries by a bits takes, where bound says it of a transform: an
-- inverse transform and one on the larger coset
abbrev pub extension_bound : (ℕ → ℕ → ℕ) → ℕ → ℕ → ℕ → ℕ
extension_bound bound k a w = bound k w + 2 ^ k * w + (bound (k + a) w + 2 ^ (k + a) * w)
