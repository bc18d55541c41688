-- Matrices by index: a height, a width and the entry at each row and column.
use Rattle.std.specs.Prelude.{◌≡◌, ℕ, ◌+◌, ◌*◌, ◌<◌, ◌==◌, if◌then◌else◌, List, map, get_or}
use Rattle.std.specs.List.{range_with_len}
use Rattle.p3_matrix.specs.RowMajor.{RowMajor, height}

-- only the entries within height and width mean anything
pub record Matrix (E : Type 0) : Type 0 where
  pub height : ℕ
  pub width : ℕ
  pub entry : ℕ → ℕ → E

-- a stored matrix by index; d stands past its end
abbrev pub matrix : {T : Type 0} → T → RowMajor T → Matrix T
matrix d m = record { height = height m; width = m.width; entry = λ i j. get_or m.values (i * m.width + j) d }

-- f of each entry
abbrev pub image : {T E : Type 0} → (T → E) → Matrix T → Matrix E
image f m = record { height = m.height; width = m.width; entry = λ i j. f (m.entry i j) }

-- m with rows i and j in each other's places
abbrev pub row_exchange : {E : Type 0} → ℕ → ℕ → Matrix E → Matrix E
row_exchange i j m = record { height = m.height; width = m.width; entry = λ r c. if r == i then m.entry j c else (if r == j then m.entry i c else m.entry r c) }

-- two matrices are one: equal shapes, and equal entries within them
pub record Same {E : Type 0} (a b : Matrix E) : Type 0 where
  pub height : a.height ≡ b.height
  pub width : a.width ≡ b.width
  pub alike : (i j : ℕ) → i < a.height → j < a.width → a.entry i j ≡ b.entry i j

-- row i, from the first entry on
abbrev pub row_of : {E : Type 0} → Matrix E → ℕ → List E
row_of m i = map (m.entry i) (range_with_len 0 m.width)

-- column j, from the first row on
abbrev pub column : {E : Type 0} → Matrix E → ℕ → List E
column m j = map (λ i. m.entry i j) (range_with_len 0 m.height)

-- the list of the rows
abbrev pub list_of_rows : {E : Type 0} → Matrix E → List (List E)
list_of_rows m = map (row_of m) (range_with_len 0 m.height)
