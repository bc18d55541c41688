-- Values of polynomials at a point, from their values on a coset of a subgroup of two-power order.
use Rattle.std.specs.Prelude.{◌≡◌, ℕ, ◌<◌, ◌^◌, List, length, get_or}
use Rattle.p3_field.specs.Ring.{Ring, IsInvertible, minus, power}
use Rattle.p3_field.specs.declared.fields.Valued.{Ghosts as FieldMembers}
use Rattle.p3_matrix.specs.Cosets.{point, AreCoefficients, values_of}
use Rattle.p3_matrix.specs.Matrix.{Matrix, column}
use Rattle.p3_matrix.specs.Polynomials.{poly, sum, value}
use Rattle.p3_matrix.specs.RowMajor.{RowMajor, height}

-- x^n - s^n, which is zero at each point of the coset of s of order n, has an inverse
abbrev pub IsOffCoset : {A : Type 0} → Ring A → ℕ → A → A → Type 0
IsOffCoset r n s x = IsInvertible r (minus r (power r x n) (power r s n))

-- the value at x of each polynomial of 2 ^ k coefficients is the sum of its values on the coset of s, each times its weight
abbrev pub AreWeights : {A : Type 0} → Ring A → (ℕ → A) → ℕ → A → A → (ℕ → A) → Type 0
AreWeights {A} r g k s x weight = (c : ℕ → A) → poly r (2 ^ k) c x ≡ sum r (2 ^ k) (λ i. r.mul (poly r (2 ^ k) c (point r g k s i)) (weight i))

-- row t of out is the sum of the rows of m, each times its weight in column t of weights
pub record AreWeightedRows {A : Type 0} (r : Ring A) (m weights out : Matrix A) : Type 0 where
  pub height : out.height ≡ weights.width
  pub width : out.width ≡ m.width
  pub sums : (t j : ℕ) → t < weights.width → j < m.width → out.entry t j ≡ sum r m.height (λ i. r.mul (m.entry i j) (weights.entry i t))

-- ys are the values at x of the polynomials whose values on the coset of s are the columns of m
pub record AreValuesAt {F : Type 0} (f : FieldMembers F) (generator : ℕ → F) (m : RowMajor F) (s x : f.Element) (ys : List F) : Type 0 where
  pub coefficients : Matrix f.Element
  pub are_coefficients : (k : ℕ) → height m ≡ 2 ^ k → AreCoefficients f.ring (λ n. f.value (generator n)) (values_of f m) k s coefficients
  pub long : length ys ≡ m.width
  pub values : (j : ℕ) → j < m.width → f.value (get_or ys j f.zero) ≡ value f.ring (column coefficients j) x
