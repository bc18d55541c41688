-- Folding, with a challenge beta: of a polynomial its even coefficients plus beta times its odd ones.
use Rattle.std.specs.Prelude.{◌≡◌, ℕ, suc, ◌+◌, ◌*◌, ◌/◌, ◌^◌, ◌<◌}
use Rattle.p3_field.specs.Ring.{Ring, minus, two}
use Rattle.p3_matrix.specs.BitOrder.{rev}
use Rattle.p3_matrix.specs.Combinations.{lengthened}
use Rattle.p3_matrix.specs.Cosets.{IsValues, point}
use Rattle.p3_matrix.specs.Matrix.{Matrix}
use Rattle.p3_dft.specs.declared.traits.Layout.{Layout}
use Rattle.p3_dft.specs.declared.traits.Layout.TheVariants.{Natural, BitReversed}

-- of pair i of 2 ^ k, as rows lie in a layout: the number of its point, and those of its rows, at the point and at minus it
abbrev pub pair_point : Layout → ℕ → ℕ → ℕ
pair_point Natural k i = i
pair_point BitReversed k i = rev k i

abbrev pub near_row : Layout → ℕ → ℕ → ℕ
near_row Natural k i = i
near_row BitReversed k i = 2 * i

abbrev pub far_row : Layout → ℕ → ℕ → ℕ
far_row Natural k i = 2 ^ k + i
far_row BitReversed k i = 2 * i + 1

module _ {A : Type 0} (r : Ring A) where
  -- coefficient j is c_(2j) + beta * c_(2j+1), where zeros stand past the last one
  abbrev pub folded_coefficients : A → Matrix A → Matrix A
  folded_coefficients beta c =
      let all = lengthened r.zero (c.height + 1) c in
      record { height = (c.height + 1) / 2; width = c.width; entry = λ i j. r.add (all.entry (2 * i) j) (r.mul beta (all.entry (2 * i + 1) j)) }

  -- v is the folded polynomial's value at x * x, where a and b are the polynomial's at x and -x: 2 x v = x (a + b) + beta (a - b)
  abbrev pub IsFoldedPair : A → A → A → A → A → Type 0
  IsFoldedPair beta x a b v = r.mul (two r) (r.mul x v) ≡ r.add (r.mul x (r.add a b)) (r.mul beta (minus r a b))

  -- out has the values on the coset of s * s of order 2 ^ k of the folded polynomials, whatever those are whose values on that of s of twice the order are m
  abbrev pub IsFolding : (g : ℕ → A) (beta : A) (k : ℕ) (s : A) (m out : Matrix A) → Type 0
  IsFolding g beta k s m out = (c : Matrix A) → IsValues r g c (suc k) s m → IsValues r g (folded_coefficients beta c) k (r.mul s s) out

  -- the same row by row: row i of out from the rows of m at point i of the coset of s and at minus it
  pub record AreFoldedRows (g : ℕ → A) (beta : A) (k : ℕ) (s : A) (m out : Matrix A) : Type 0 where
    pub height : m.height ≡ 2 ^ suc k
    pub half : out.height ≡ 2 ^ k
    pub width : out.width ≡ m.width
    pub rows : (i j : ℕ) → i < 2 ^ k → j < m.width → IsFoldedPair beta (point r g (suc k) s i) (m.entry i j) (m.entry (2 ^ k + i) j) (out.entry i j)
