use Rattle.std.proofs.Common.{◌-◌, ◌<◌, ◌^◌, vec_len}
use Rattle.std.specs.String.{string_bytes}
use Rattle.dft_program.proofs.Told.{KeptFirst}
use Rattle.dft_program.proofs.words.words_after_name.Given as goal

-- the words so far were told, one after another, and their texts are kept
abbrev pub invariant-loop-buffer : goal.invariant-loop-buffer
invariant-loop-buffer g l = record {
  room : 0 < vec_len l.buffer;
  kept : KeptFirst string_bytes (g.L.CommandLine.told l.fn.line) (g.L.CommandLine.told l.line) l.texts.items;
}

abbrev pub decreases-loop-buffer : goal.decreases-loop-buffer
decreases-loop-buffer g l = 2 ^ 64 - vec_len l.texts
