-- The chunks of a list, which all have one size.
use Rattle.std.specs.Borrow.{Bor}
use Rattle.std.specs.Prelude.{ℕ, ◌*◌, List, length, take, drop, Option, Some, None}

-- chunk n
abbrev pub chunk_of : {T : Type 0} → ℕ → ℕ → List T → List T
chunk_of size n xs = take size (drop (n * size) xs)

-- what work begins with: the source, if there is one, else what stands in the place
abbrev pub source_of : {T : Type 0} → Option (Bor (List T)) → List T → List T
source_of None here = here
source_of (Some source) here = source.now

-- and chunk n of it, which is as long as what stands in its place
abbrev pub chunk_of_source : {T : Type 0} → Option (Bor (List T)) → ℕ → List T → List T
chunk_of_source None n here = here
chunk_of_source (Some source) n here = chunk_of (length here) n source.now
