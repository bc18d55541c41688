-- That a coset has one table at most, and how many bytes a table takes.
use Rattle.std.specs.Prelude.{◌≡◌, ℕ, List, [], ◌∷◌}
use Rattle.std.specs.Borrow.{RattleType, usize}
use Rattle.std.specs.Mem.{type_size}
use denote.Struct.Tuple.{Tuple}
use Rattle.std.specs.contracts.alloc.Global.{the_row as global}
use Rattle.std.specs.contracts.impls.GlobalAllocator.TheImpl.{ghosts as global_allocator}
use Rattle.std.specs.contracts.vec.Vec.{the_row as vec}
use Rattle.p3_field.specs.declared.fields.Valued.{Ghosts as FieldMembers}
use Rattle.p3_matrix.specs.Cosets.{Coset, IsCosetAt}

-- no two places of a list have the same coset: a coset is given by its order and the value of its shift
abbrev pub HasEachOnce : {F : Type 0} (f : FieldMembers F) → List (Coset F) → Type 0
HasEachOnce f cosets = (k : ℕ) (s : f.Element) (i j : ℕ) → IsCosetAt f cosets k s i → IsCosetAt f cosets k s j → i ≡ j

-- how many bytes a table takes over a field: a number, the shift and the vector of the twiddles, side by side
abbrev pub coset_table_bytes : RattleType → ℕ
coset_table_bytes F = type_size (Tuple (usize ∷ F ∷ vec F global global_allocator ∷ []))
