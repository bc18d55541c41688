-- Blocks of rows that are lent to a consumer, one after another.
use Rattle.std.specs.Prelude.{◌≡◌, ◌≢◌, ℕ, ◌+◌, ◌*◌, ◌/◌, ◌%◌, ◌<◌, List, [], ◌∷◌, ◌++◌, map, IsPermutation, Result, Ok, Err, ⊤}
use Rattle.std.specs.List.{FoldsTo, All, AllPairs, range_with_len}
use Rattle.p3_matrix.specs.Matrix.{Matrix, Same}
use Rattle.p3_matrix.specs.RowMajor.{RowMajor, IsRowMajor, height, rows_from}

-- block q of b rows: the number of its first row, and its rows
abbrev pub block : {T : Type 0} → ℕ → RowMajor T → ℕ → ℕ × RowMajor T
block b m q = (q * b, rows_from m (q * b) b)

-- the first n blocks of b rows
abbrev pub first_blocks : {T : Type 0} → ℕ → RowMajor T → ℕ → List (ℕ × RowMajor T)
first_blocks b m n = map (block b m) (range_with_len 0 n)

-- the list has each block of b rows of m once, in some order
pub record IsPartition {T : Type 0} (b : ℕ) (m : RowMajor T) (blocks : List (ℕ × RowMajor T)) : Type 0 where
  pub divides : height m % b ≡ 0
  pub each_once : IsPermutation (first_blocks b m (height m / b)) blocks

-- the b rows of a matrix of values from one on
abbrev pub part : {A : Type 0} → Matrix A → ℕ → ℕ → Matrix A
part m start b = record { height = b; width = m.width; entry = λ i j. m.entry (start + i) j }

-- whole rows that start at a multiple of b within m, with the values of the b rows there
pub record IsBlockOf {T A : Type 0} (values : RowMajor T → Matrix A) (b : ℕ) (m : Matrix A) (block : ℕ × RowMajor T) : Type 0 where
  pub multiple : block.0 % b ≡ 0
  pub within : block.0 < m.height
  pub whole : IsRowMajor block.1
  pub rows : Same (values block.1) (part m block.0 b)

-- such blocks, none twice
pub record AreBlocksOf {T A : Type 0} (values : RowMajor T → Matrix A) (b : ℕ) (m : Matrix A) (blocks : List (ℕ × RowMajor T)) : Type 0 where
  pub each : All (IsBlockOf values b m) blocks
  pub distinct : AllPairs (λ p q. p.0 ≢ q.0) blocks

module _ {C T R : Type 0} (step : C → ℕ → RowMajor T → Result ⊤ R → C → Type 0) where
  -- the consumer went from c to e and accepted each block, in order
  abbrev pub Run : C → List (ℕ × RowMajor T) → C → Type 0
  Run c blocks e = FoldsTo (λ x p y. step x p.0 p.1 (Ok tt) y) c blocks e

  -- the consumer went from c to e: it accepted each block, in order, and then refused one
  pub record RunToRefusal (c : C) (accepted : List (ℕ × RowMajor T)) (refused : ℕ × RowMajor T) (refusal : R) (e : C) : Type 0 where
    pub middle : C
    pub run : Run c accepted middle
    pub stop : step middle refused.0 refused.1 (Err refusal) e

  -- a consumer that may be made accepted each block of b rows of out once, and became last
  pub record IsPublished (may_make : C → Type 0) (b : ℕ) (out : RowMajor T) (last : C) : Type 0 where
    pub first : C
    pub made : may_make first
    pub blocks : List (ℕ × RowMajor T)
    pub parts : IsPartition b out blocks
    pub run : Run first blocks last

  -- a consumer that may be made accepted some blocks of b rows of out, refused one more, and became last
  pub record IsRefused {A : Type 0} (may_make : C → Type 0) (values : RowMajor T → Matrix A) (b : ℕ) (out : Matrix A) (last : C) (refusal : R) : Type 0 where
    pub first : C
    pub made : may_make first
    pub accepted : List (ℕ × RowMajor T)
    pub refused : ℕ × RowMajor T
    pub blocks : AreBlocksOf values b out (accepted ++ refused ∷ [])
    pub run : RunToRefusal first accepted refused refusal last
