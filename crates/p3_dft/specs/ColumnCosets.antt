-- Transforms of matrices whose columns lie on cosets of their own.
use Rattle.std.specs.Prelude.{◌≡◌, ℕ, ◌^◌, ◌<◌}
use Rattle.p3_field.specs.Ring.{Ring, power}
use Rattle.p3_field.specs.declared.fields.Valued.{Ghosts as FieldMembers}
use Rattle.p3_matrix.specs.Combinations.{alone}
use Rattle.p3_matrix.specs.Cosets.{AreCoefficients, IsValues, values_of}
use Rattle.p3_matrix.specs.Matrix.{Matrix, Same}
use Rattle.p3_matrix.specs.RowMajor.{HasShapeOf, RowMajor, height}

-- the shift of column j: that of column 0 is s, and each next one is t times the one before
abbrev pub column_shift : {A : Type 0} → Ring A → A → A → ℕ → A
column_shift r s t j = r.mul s (power r t j)

-- each entry of c times the power of its column's shift whose exponent is the row's number
abbrev pub columns_shifted : {A : Type 0} → Ring A → (ℕ → A) → Matrix A → Matrix A
columns_shifted r shifts c = record { height = c.height; width = c.width; entry = λ i j. r.mul (c.entry i j) (power r (shifts j) i) }

module _ {F : Type 0} (f : FieldMembers F) (generator : ℕ → F) where
  -- each column of out has the values, on the coset of its own shift, of the polynomial whose coefficients are that column of m
  pub record IsTransformByColumns (m : RowMajor F) (shifts : ℕ → f.Element) (out : RowMajor F) : Type 0 where
    pub shape : HasShapeOf out m
    pub columns : (k j : ℕ) → height m ≡ 2 ^ k → j < m.width
        → IsValues f.ring (λ n. f.value (generator n)) (alone j (values_of f m)) k (shifts j) (alone j (values_of f out))

  -- each column of c has the coefficients whose values on the coset of its own shift are that column of m, and no other matrix has such columns
  pub record IsInterpolationByColumns (m : RowMajor F) (shifts : ℕ → f.Element) (c : RowMajor F) : Type 0 where
    pub shape : HasShapeOf c m
    pub holds : (k j : ℕ) → height m ≡ 2 ^ k → j < m.width
        → AreCoefficients f.ring (λ n. f.value (generator n)) (alone j (values_of f m)) k (shifts j) (alone j (values_of f c))
    pub only : (k : ℕ) → height m ≡ 2 ^ k → (d : Matrix f.Element) → d.width ≡ m.width
        → ((j : ℕ) → j < m.width
        → AreCoefficients f.ring (λ n. f.value (generator n)) (alone j (values_of f m)) k (shifts j) (alone j d))
        → Same d (values_of f c)
