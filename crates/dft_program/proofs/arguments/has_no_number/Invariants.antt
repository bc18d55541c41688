use Rattle.std.proofs.Common.{◌≡◌, false, map, take}
use Rattle.std.specs.String.{string_bytes}
use Rattle.dft_program.specs.Arguments.{has_no_number}
use Rattle.dft_program.proofs.arguments.has_no_number.Given as goal

abbrev pub invariant-loop-word : goal.invariant-loop-word
invariant-loop-word l = has_no_number (map string_bytes (take l.word-index l.words)) ≡ false
