-- Matrices that work in place is given, and what it leaves of them.
use Rattle.std.specs.Prelude.{◌≡◌, ℕ, ◌^◌, ◌<◌, length}
use Rattle.p3_matrix.specs.RowMajor.{HasShapeOf, IsRowMajor, RowMajor, height}

-- a whole matrix of 2 ^ k rows, a number that a word of 64 bits holds
pub record HasTwoPowerRows {T : Type 0} (m : RowMajor T) (k : ℕ) : Type 0 where
  pub whole : IsRowMajor m
  pub height : height m ≡ 2 ^ k
  pub fits_u64 : k < 64

-- as many rows, columns and entries as another
pub record HasEntriesOf {T U : Type 0} (after : RowMajor T) (before : RowMajor U) : Type 0 where
  pub shape : HasShapeOf after before
  pub size : length after.values ≡ length before.values
