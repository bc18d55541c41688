use Rattle.std.proofs.Common.{◌≡◌, false, take}
use Rattle.dft_program.specs.Arguments.{numbers_of, reaches}
use Rattle.dft_program.proofs.arguments.reaches.Given as goal

abbrev pub invariant-loop-word : goal.invariant-loop-word
invariant-loop-word l = reaches l.modulus (numbers_of (take l.word-index l.words)) ≡ false
