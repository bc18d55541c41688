-- In how many rows a fact holds, and in how many two matrices agree or differ.
use Rattle.std.specs.Prelude.{◌≡◌, ◌≢◌, ℕ, ◌<◌, ◌≤◌, List, length}
use Rattle.std.specs.List.{All, AllPairs}
use Rattle.p3_matrix.specs.Matrix.{Matrix}

-- of at least n rows of so many P holds: there is a list of n row numbers or more, none twice, and P holds of each
pub record HoldsInRows (n height : ℕ) (P : ℕ → Type 0) : Type 0 where
  pub rows : List ℕ
  pub enough : n ≤ length rows
  pub distinct : AllPairs (λ i j. i ≢ j) rows
  pub within : All (λ i. i < height) rows
  pub holds : All P rows

-- in at least n rows all entries of x and y are equal
abbrev pub AgreeInRows : {E : Type 0} → ℕ → Matrix E → Matrix E → Type 0
AgreeInRows n x y = HoldsInRows n x.height (λ i. (j : ℕ) → j < x.width → x.entry i j ≡ y.entry i j)

-- in at least n rows an entry of x is another than that of y
abbrev pub DifferInRows : {E : Type 0} → ℕ → Matrix E → Matrix E → Type 0
DifferInRows n x y = HoldsInRows n x.height (λ i. (j : ℕ) × (j < x.width) × (x.entry i j ≢ y.entry i j))
