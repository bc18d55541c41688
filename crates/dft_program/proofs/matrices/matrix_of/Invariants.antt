use Rattle.std.proofs.Common.{◌≡◌, map, take}
use Rattle.dft_program.specs.Arguments.{numbers_of}
use Rattle.dft_program.proofs.matrices.matrix_of.Given as goal

-- the elements so far have the numbers of the words so far
abbrev pub invariant-loop-word : goal.invariant-loop-word
invariant-loop-word g l =
    map (λ x. g.F.Valued.number (g.F.Valued.value x)) l.values.items ≡ numbers_of (take l.word-index l.words)
