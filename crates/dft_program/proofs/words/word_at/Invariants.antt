use Rattle.std.proofs.Common.{◌≡◌, ◌-◌, ◌<◌, ◌^◌, vec_len}
use Rattle.dft_program.proofs.words.word_at.Given as goal

-- nothing was told of the place
abbrev pub invariant-loop-count : goal.invariant-loop-count
invariant-loop-count g l = record {
  room : 0 < vec_len l.buffer;
  untold : g.L.CommandLine.told l.line ≡ g.L.CommandLine.told l.fn.line;
}

abbrev pub decreases-loop-count : goal.decreases-loop-count
decreases-loop-count g l = 2 ^ 64 - vec_len l.buffer
