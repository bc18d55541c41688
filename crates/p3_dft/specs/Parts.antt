-- Matrices cut into parts that are transformed one by one: rows taken many at a time, and matrices whose rows are interleaved.
use Rattle.std.specs.Prelude.{◌≡◌, ℕ, ◌+◌, ◌*◌, ◌<◌}
use Rattle.p3_matrix.specs.Matrix.{Matrix}
use Rattle.p3_matrix.specs.RowMajor.{RowMajor, row}

-- the same entries, with n rows of m in each row
abbrev pub wide_rows : {T : Type 0} → ℕ → RowMajor T → RowMajor T
wide_rows n m = record { width = n * m.width; values = m.values }

-- row i of m, as a matrix of w columns
abbrev pub row_as_matrix : {T : Type 0} → ℕ → RowMajor T → ℕ → RowMajor T
row_as_matrix w m i = record { width = w; values = row m i }

-- m has the rows of n matrices of h rows, in turn: row i + n * j is row j of part i
pub record IsInterleaved {E : Type 0} (n h : ℕ) (part : ℕ → Matrix E) (m : Matrix E) : Type 0 where
  pub height : m.height ≡ n * h
  pub heights : (i : ℕ) → i < n → (part i).height ≡ h
  pub widths : (i : ℕ) → i < n → (part i).width ≡ m.width
  pub rows : (i j c : ℕ) → i < n → j < h → c < m.width → m.entry (i + n * j) c ≡ (part i).entry j c
