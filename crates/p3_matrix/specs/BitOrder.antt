-- Bit reversed order, as a map on row numbers.
use Rattle.std.specs.Prelude.{ℕ, zero, suc, ◌+◌, ◌*◌, ◌/◌, ◌%◌, ◌^◌}
use Rattle.std.specs.List.{flat_map, range_with_len}
use Rattle.p3_matrix.specs.Matrix.{Matrix}
use Rattle.p3_matrix.specs.RowMajor.{RowMajor, row}

-- the number below 2 ^ n whose n binary digits are those of i in reverse
unfoldable pub rev : ℕ → ℕ → ℕ
rev zero i = 0
rev (suc n) i = (i % 2) * 2 ^ n + rev n (i / 2)

-- a matrix of 2 ^ n rows, row i being row rev n i of m
abbrev pub bit_reversal : {E : Type 0} → ℕ → Matrix E → Matrix E
bit_reversal n m = record { height = m.height; width = m.width; entry = λ i j. m.entry (rev n i) j }

-- the same of a stored matrix
abbrev pub reversed_rows : {T : Type 0} → ℕ → RowMajor T → RowMajor T
reversed_rows n m = record { width = m.width; values = flat_map (λ i. row m (rev n i)) (range_with_len 0 (2 ^ n)) }

-- a matrix of 2 ^ bits rows whose rows lie in bit reversed order
pub record BitReversed (M : Type 0) : Type 0 where
  pub bits : ℕ
  pub physical : M

-- how many of k digits, or layers, the first half has: the middle one of an odd number is among them
abbrev pub mid_of : ℕ → ℕ
mid_of k = (k + 1) / 2
