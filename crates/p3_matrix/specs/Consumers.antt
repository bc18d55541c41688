-- What the consumers of this crate make of a block.
use Rattle.std.specs.Prelude.{◌≡◌, ℕ, ◌+◌, ◌-◌, ◌*◌, ◌<◌, ◌≤◌, Bool, true, List, [], ◌∷◌, ◌++◌, length, slice_range}
use Rattle.std.specs.Prelude.{Result, Ok, Err, ⊤, Vec, vec_len, vec_capacity}
use Rattle.std.specs.List.{All}
use Rattle.std.specs.Mem.{type_size}
use Rattle.p3_matrix.specs.RowMajor.{RowMajor, IsRowMajor}
use Rattle.p3_matrix.specs.declared.blocks.BlockRefused.{BlockRefused}
use Rattle.p3_matrix.specs.declared.blocks.Place.{Place}
use Rattle.p3_matrix.specs.contracts.blocks.Place.{the_row as place_row}
use Rattle.p3_matrix.specs.Writes.{with_elements}

-- the rows from row `start` on are written to their place among the entries of all rows, where there is room
abbrev pub IsCopied : {T : Type 0} → List T → ℕ → RowMajor T → List T → Type 0
IsCopied before start rows after =
    start * rows.width + length rows.values ≤ length before → after ≡ with_elements before (start * rows.width) rows.values

-- how many blocks are taken in all, and how many were
pub record Limited : Type 0 where
  pub limit : ℕ
  pub seen : ℕ

-- a block below the limit is taken and counted, and any other is refused by the number of its first row
pub record IsCounted (c : Limited) (start : ℕ) (answer : Result ⊤ BlockRefused) (e : Limited) : Type 0 where
  pub taken : c.seen < c.limit → (answer ≡ Ok tt) × (e ≡ record c { seen = c.seen + 1 })
  pub refused : c.limit ≤ c.seen → (answer ≡ Err (record { start = start })) × (e ≡ c)

-- the blocks that are kept, whether one was missed, and for how many more blocks and elements there is room
pub record Recording (T : Type 0) : Type 0 where
  pub blocks : List (ℕ × RowMajor T)
  pub missed : Bool
  pub blocks_left : ℕ
  pub elements_left : ℕ

-- one more block and all its elements have room
abbrev pub HasRoom : {T : Type 0} → Recording T → RowMajor T → Type 0
HasRoom r rows = (1 ≤ r.blocks_left) × (length rows.values ≤ r.elements_left)

-- every block is accepted: one that has room is kept behind the others, and of any other it is only kept that it was missed
pub record IsRecorded {T : Type 0} (r : Recording T) (start : ℕ) (rows : RowMajor T) (answer : Result ⊤ ⊤) (e : Recording T) : Type 0 where
  pub accepted : answer ≡ Ok tt
  pub kept : HasRoom r rows → e ≡ record {
    blocks = r.blocks ++ (start, rows) ∷ [];
    missed = r.missed;
    blocks_left = r.blocks_left - 1;
    elements_left = r.elements_left - length rows.values;
  }
  pub missed : (HasRoom r rows → ⊥) → e ≡ record r { missed = true }

-- how many bytes a place takes
abbrev pub place_bytes : ℕ
place_bytes = type_size place_row

-- the block of a place, of the elements of all
abbrev pub block_at : {T : Type 0} → List T → Place → ℕ × RowMajor T
block_at elements p = (p.start, record { width = p.width; values = slice_range elements p.first p.end })

-- the place lies within the elements and has whole rows
pub record IsPlaceIn {T : Type 0} (elements : List T) (p : Place) : Type 0 where
  pub ordered : p.first ≤ p.end
  pub within : p.end ≤ length elements
  pub whole : IsRowMajor (block_at elements p).1

-- places within the elements, and vectors with room for more of both
pub record AreRoomy {T Z : Type 0} (places : Vec Place Z) (more_places : ℕ) (elements : Vec T Z) (more_elements : ℕ) : Type 0 where
  pub each : All (IsPlaceIn elements.items) places.items
  pub places_fit : vec_len places + more_places ≤ vec_capacity places
  pub elements_fit : vec_len elements + more_elements ≤ vec_capacity elements
