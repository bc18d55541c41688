-- Sums of the entries of a matrix.
use Rattle.std.specs.Prelude.{ℕ, ◌+◌, ◌*◌, ◌/◌, ◌%◌, List, length, get_or}
use Rattle.p3_field.specs.Ring.{Ring}
use Rattle.p3_matrix.specs.Matrix.{Matrix}
use Rattle.p3_matrix.specs.Polynomials.{sum}

-- the entries of the b rows from row `start` on, one row after another
abbrev pub sum_of_rows : {A : Type 0} → Ring A → ℕ → Matrix A → ℕ → A
sum_of_rows r b m start = sum r (b * m.width) (λ i. m.entry (start + i / m.width) (i % m.width))

-- of such blocks, which start at the rows of these numbers
abbrev pub sum_of_blocks : {A : Type 0} → Ring A → ℕ → Matrix A → List ℕ → A
sum_of_blocks r b m starts = sum r (length starts) (λ q. sum_of_rows r b m (get_or starts q 0))
