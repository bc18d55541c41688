-- What is said of an extension with blocks, for each of its outcomes.
use Rattle.std.specs.Prelude.{Result, Ok, Err, ⊤}
use Rattle.p3_matrix.specs.declared.error.DftError.{DftError}
use Rattle.p3_matrix.specs.declared.error.DftError.TheVariants.{OutOfMemory as MemoryRefused}
use Rattle.p3_dft.specs.declared.blocks.BlocksStopped.{BlocksStopped}
use Rattle.p3_dft.specs.declared.blocks.BlocksStopped.TheVariants.{Refused, OutOfMemory}

-- P of the consumer that refused a block, and of its refusal
abbrev pub OnRefused : {M C R : Type 0} → BlocksStopped M C R → (C → R → Type 0) → Type 0
OnRefused (Refused consumer refusal) P = P consumer refusal
OnRefused (OutOfMemory unpublished) P = ⊤

-- P of the maker of consumers that was never called
abbrev pub OnOutOfMemory : {M C R : Type 0} → BlocksStopped M C R → (M → Type 0) → Type 0
OnOutOfMemory (Refused consumer refusal) P = ⊤
OnOutOfMemory (OutOfMemory unpublished) P = P unpublished.make_consumer

-- an extension with blocks was made, whether all of it was accepted or not, or memory was refused before
abbrev pub outcome : {T M C R : Type 0} → Result T (BlocksStopped M C R) → Result ⊤ DftError
outcome (Ok out) = Ok tt
outcome (Err (Refused consumer refusal)) = Ok tt
outcome (Err (OutOfMemory unpublished)) = Err MemoryRefused

-- P, but where memory was refused
abbrev pub UnlessOutOfMemory : {T M C R : Type 0} → Result T (BlocksStopped M C R) → Type 0 → Type 0
UnlessOutOfMemory (Ok out) P = P
UnlessOutOfMemory (Err stopped) P = OnRefused stopped (λ _ _. P)
