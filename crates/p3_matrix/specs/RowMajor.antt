-- Matrices as they are stored: the entries of one row after those of another.
use Rattle.std.specs.Prelude.{◌≡◌, ℕ, ◌+◌, ◌-◌, ◌*◌, ◌/◌, ◌^◌, ◌≤◌, List, ◌++◌, length, map, replicate, slice_range}
use Rattle.std.specs.List.{range_with_len}

-- a width, and the entries row by row
pub record RowMajor (T : Type 0) : Type 0 where
  pub width : ℕ
  pub values : List T

-- how many rows there are
abbrev pub height : {T : Type 0} → RowMajor T → ℕ
height m = length m.values / m.width

-- the entries fill whole rows, and rows are not empty
pub record IsRowMajor {T : Type 0} (m : RowMajor T) : Type 0 where
  pub width : 1 ≤ m.width
  pub full : height m * m.width ≡ length m.values

-- two stored matrices have one height and one width
abbrev pub HasShapeOf : {T U : Type 0} → RowMajor T → RowMajor U → Type 0
HasShapeOf a b = (height a ≡ height b) × (a.width ≡ b.width)

-- row i
abbrev pub row : {T : Type 0} → RowMajor T → ℕ → List T
row m i = slice_range m.values (i * m.width) (i * m.width + m.width)

-- the matrix as the list of its rows
abbrev pub rows : {T : Type 0} → RowMajor T → List (List T)
rows m = map (row m) (range_with_len 0 (height m))

-- the n rows from row i on
abbrev pub rows_from : {T : Type 0} → RowMajor T → ℕ → ℕ → RowMajor T
rows_from m i n = record { width = m.width; values = slice_range m.values (i * m.width) (i * m.width + n * m.width) }

-- m with rows of z below it, up to 2 ^ a times as many
abbrev pub with_zeros : {T : Type 0} → T → RowMajor T → ℕ → RowMajor T
with_zeros z m a = record { width = m.width; values = m.values ++ replicate (length m.values * 2 ^ a - length m.values) z }
