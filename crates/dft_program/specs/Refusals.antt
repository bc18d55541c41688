-- That memory was refused to a vector, whose elements are few and small.
use Rattle.std.specs.Prelude.{ℕ, ◌≤◌}
use Rattle.std.specs.Borrow.{RattleType}
use Rattle.std.specs.Mem.{type_size}
use Rattle.growth.specs.Refusals.{WasRefused}
use Rattle.p3_networks.specs.CosetTables.{coset_table_bytes}

-- memory was refused to a vector that needed room for at most n elements, which take at most 64 bytes each
abbrev pub RefusedWithin : ℕ → Type 0
RefusedWithin n = WasRefused 64 n

-- what is kept in vectors over a field takes no more
pub record IsSmall (F : RattleType) : Type 0 where
  pub element : type_size F ≤ 64
  pub table : coset_table_bytes F ≤ 64
