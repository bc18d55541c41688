-- The points of a coset of a subgroup of two-power order, the values of polynomials on it, and their coefficients.
-- g n is the generator of the subgroup of order 2 ^ n, and a matrix has a polynomial in each column.
use Rattle.std.specs.Prelude.{◌≡◌, ℕ, ◌+◌, ◌-◌, ◌%◌, ◌^◌, ◌<◌, List, ◌++◌, length, get_or}
use Rattle.std.specs.List.{All}
use Rattle.p3_field.specs.Ring.{Ring, count, power}
use Rattle.p3_field.specs.declared.fields.Valued.{Ghosts as FieldMembers}
use Rattle.p3_matrix.specs.Matrix.{Matrix, column, image, matrix}
use Rattle.p3_matrix.specs.Polynomials.{value}
use Rattle.p3_matrix.specs.RowMajor.{RowMajor}

-- the values of the elements of a stored matrix
abbrev pub values_of : {F : Type 0} (f : FieldMembers F) → RowMajor F → Matrix f.Element
values_of f m = image f.value (matrix f.zero m)

-- point i of the coset of s
unfoldable pub point : {A : Type 0} → Ring A → (ℕ → A) → ℕ → A → ℕ → A
point r g n s i = r.mul s (power r (g n) i)

-- out has 2 ^ n rows, and row i has the values of the columns of c at point i
pub record IsValues {A : Type 0} (r : Ring A) (g : ℕ → A) (c : Matrix A) (n : ℕ) (s : A) (out : Matrix A) : Type 0 where
  pub height : out.height ≡ 2 ^ n
  pub width : out.width ≡ c.width
  pub values : (i j : ℕ) → i < 2 ^ n → j < c.width → out.entry i j ≡ value r (column c j) (point r g n s i)

-- c has the shape of m, which has 2 ^ k rows, and its values on the coset of s are m
pub record AreCoefficients {A : Type 0} (r : Ring A) (g : ℕ → A) (m : Matrix A) (k : ℕ) (s : A) (c : Matrix A) : Type 0 where
  pub height : c.height ≡ m.height
  pub width : c.width ≡ m.width
  pub values : IsValues r g c k s m

-- row i of c times the i-th power of s
abbrev pub coset_shift : {A : Type 0} → Ring A → A → Matrix A → Matrix A
coset_shift r s c = record { height = c.height; width = c.width; entry = λ i j. r.mul (c.entry i j) (power r s i) }

-- row 0 stays, and row i of the others changes places with row height - i
abbrev pub opposite_rows : {A : Type 0} → Matrix A → Matrix A
opposite_rows m = record { height = m.height; width = m.width; entry = λ i j. m.entry ((m.height - i) % m.height) j }

-- each entry of out is the y with n * y = x, where x is the entry of m in its place
pub record IsQuotient {A : Type 0} (r : Ring A) (n : ℕ) (m out : Matrix A) : Type 0 where
  pub height : out.height ≡ m.height
  pub width : out.width ≡ m.width
  pub entries : (i j : ℕ) → i < m.height → j < m.width → r.mul (count r n) (out.entry i j) ≡ m.entry i j

-- a coset: the logarithm of its order, and its shift
pub record Coset (F : Type 0) : Type 0 where
  pub log_h : ℕ
  pub shift : F

-- it is the coset of s of order 2 ^ k
abbrev pub IsCosetOf : {F : Type 0} (f : FieldMembers F) → ℕ → f.Element → Coset F → Type 0
IsCosetOf f k s coset = (coset.log_h ≡ k) × (f.value coset.shift ≡ s)

-- that coset is in a place of a list
abbrev pub IsCosetAt : {F : Type 0} (f : FieldMembers F) → List (Coset F) → ℕ → f.Element → ℕ → Type 0
IsCosetAt {F} f cosets k s i = (i < length cosets) × ((d : Coset F) → IsCosetOf f k s (get_or cosets i d))

-- or in any
abbrev pub HasCoset : {F : Type 0} (f : FieldMembers F) → List (Coset F) → ℕ → f.Element → Type 0
HasCoset f cosets k s = (i : ℕ) × IsCosetAt f cosets k s i

-- all 2 ^ a cosets of order 2 ^ k of which that of s of order 2 ^ (k + a) is made
abbrev pub HasCosets : {F : Type 0} (f : FieldMembers F) → (ℕ → F) → List (Coset F) → ℕ → ℕ → f.Element → Type 0
HasCosets f generator cosets k a s = (c : ℕ) → c < 2 ^ a → HasCoset f cosets k (point f.ring (λ n. f.value (generator n)) (k + a) s c)

-- it is one of them
abbrev pub IsOneOf : {F : Type 0} (f : FieldMembers F) → (ℕ → F) → ℕ → ℕ → f.Element → Coset F → Type 0
IsOneOf f generator k a s coset = (c : ℕ) × (c < 2 ^ a) × IsCosetOf f k (point f.ring (λ n. f.value (generator n)) (k + a) s c) coset

-- only some of them were added, at the end
abbrev pub AddsCosets : {F : Type 0} (f : FieldMembers F) → (ℕ → F) → ℕ → ℕ → f.Element → List (Coset F) → List (Coset F) → Type 0
AddsCosets {F} f generator k a s before after = (added : List (Coset F)) × (after ≡ before ++ added) × All (IsOneOf f generator k a s) added
