-- Slots of an extension: each holds the values on a coset of its own.
use Rattle.std.specs.Prelude.{◌≡◌, ℕ, ◌+◌, ◌*◌, ◌^◌, ◌<◌, ◌≤◌, List, get_or, map, Result, MatchResult, ⊤}
use Rattle.std.specs.List.{range_with_len}
use Rattle.p3_field.specs.declared.fields.Valued.{Ghosts as FieldMembers}
use Rattle.p3_matrix.specs.BitOrder.{rev}
use Rattle.p3_matrix.specs.Blocks.{Run, RunToRefusal}
use Rattle.p3_matrix.specs.Matrix.{Matrix}
use Rattle.p3_matrix.specs.RowMajor.{RowMajor, rows_from}
use Rattle.p3_matrix.specs.Cosets.{point}
use Rattle.p3_matrix.specs.Polynomials.{poly}
use Rattle.p3_networks.specs.Layers.{AreRows}
use Rattle.p3_networks.specs.Twiddles.{forward_root}

-- slot m of an extension of 2 ^ k rows of w entries by a bits has n entries, as many as the coefficients
pub record IsSlot (most k a w coefficients m n : ℕ) : Type 0 where
  pub rows : AreRows k w n
  pub slot : m < 2 ^ a
  pub source : coefficients ≡ n
  pub within : k + a ≤ most
  pub fits_u64 : k + a < 64

-- rows of w entries, from row number `first` of a matrix on: the number of the first row of their block q of b rows, and its rows
abbrev pub slot_block : {T : Type 0} → ℕ → ℕ → ℕ → List T → ℕ → ℕ × RowMajor T
slot_block first b w rows q = (first + q * b, rows_from (record { width = w; values = rows }) (q * b) b)

-- the first n blocks
abbrev pub slot_blocks : {T : Type 0} → ℕ → ℕ → ℕ → List T → ℕ → List (ℕ × RowMajor T)
slot_blocks first b w rows n = map (slot_block first b w rows) (range_with_len 0 n)

-- how the rows of chunks are lent: number `first` is the first row of all, and a chunk has so many blocks of so many rows of so many entries
pub record BlockShape : Type 0 where
  pub first : ℕ
  pub blocks : ℕ
  pub rows : ℕ
  pub width : ℕ

-- n blocks of rows are lent, one after another, up to one that is refused; with the first m blocks final, `done m` holds
abbrev pub LentInBlocks : {T C R : Type 0} → (C → ℕ → RowMajor T → Result ⊤ R → C → Type 0) → ℕ → ℕ → ℕ → ℕ
    → (ℕ → Type 0) → List T → C → Result ⊤ R → C → Type 0
LentInBlocks step first b w n done rows before result after = MatchResult result (λ _. done n × Run step before (slot_blocks first b w rows n) after)
    (λ refusal. (m : ℕ) × (m < n) × done (m + 1) × RunToRefusal step before (slot_blocks first b w rows m) (slot_block first b w rows m) refusal after)

-- the first n rows of after have the values on the coset of s of order 2 ^ k, in bit reversed order, of the polynomials
-- whose 2 ^ k coefficients are the rows of before in bit reversed order
abbrev pub HasRowsOnCoset : {F : Type 0} (f : FieldMembers F) → (ℕ → F) → ℕ → ℕ → f.Element → ℕ → List F → List F → Type 0
HasRowsOnCoset f generator k w s n before after = (r j : ℕ) → r < n → j < w → f.value (get_or after (r * w + j) f.zero)
    ≡ poly f.ring (2 ^ k) (λ q. f.value (get_or before (rev k q * w + j) f.zero)) (point f.ring (forward_root f generator) k s (rev k r))

-- the values on the coset of s of order 2 ^ (k + a), in bit reversed order, of the polynomials whose 2 ^ k coefficients
-- are rows of w entries in bit reversed order
abbrev pub extended_rows : {F : Type 0} (f : FieldMembers F) → (ℕ → F) → ℕ → ℕ → ℕ → f.Element → List F → Matrix f.Element
extended_rows f generator k a w s rows = record {
  height = 2 ^ (k + a);
  width = w;
  entry = λ r j. poly f.ring (2 ^ k) (λ q. f.value (get_or rows (rev k q * w + j) f.zero)) (point f.ring (forward_root f generator) (k + a) s (rev (k + a) r));
}
