-- What a stored matrix becomes by writes to a part of it that was lent.
use Rattle.std.specs.Prelude.{ℕ, ◌*◌, List, ◌++◌, length, take, drop}
use Rattle.p3_matrix.specs.RowMajor.{RowMajor}

-- xs with ws written over it from place a on; what does not fit is left out
abbrev pub with_elements : {T : Type 0} → List T → ℕ → List T → List T
with_elements xs a ws = take (length xs) (take a xs ++ (ws ++ drop (length ws) (drop a xs)))

-- m with ws written over its entries
abbrev pub with_values : {T : Type 0} → RowMajor T → List T → RowMajor T
with_values m ws = record m { values = take (length m.values) (ws ++ drop (length ws) m.values) }

-- m with ws written over its entries from row i on
abbrev pub with_row : {T : Type 0} → RowMajor T → ℕ → List T → RowMajor T
with_row m i ws = record m { values = with_elements m.values (i * m.width) ws }
