use Rattle.std.proofs.Common.{◌≡◌, List, ℕ, ◌++◌, length}
use Rattle.dft_program.specs.Sinks.{Took}
use Rattle.dft_program.proofs.sink.write_text.Given as goal

-- what was taken is what stands in the text before the rest
abbrev pub invariant-loop-rest : goal.invariant-loop-rest
invariant-loop-rest g l =
    let calls = g.W.Sink.calls in
    record {
      taken : (start : List ℕ) × (l.text ≡ start ++ l.rest) × Took (calls l.fn.out) (calls l.out) start;
      no_failure : (calls l.out).failures ≡ (calls l.fn.out).failures;
    }

abbrev pub decreases-loop-rest : goal.decreases-loop-rest
decreases-loop-rest g l = length l.rest
