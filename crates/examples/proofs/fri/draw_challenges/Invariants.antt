use Rattle.std.proofs.Common.{◌≡◌, ◌≤◌, length, take}
use Rattle.std.specs.Prelude.{vec_capacity}
use Rattle.examples.specs.Fri.{AreDrawn}
use Rattle.examples.proofs.fri.draw_challenges.Given as goal

abbrev pub invariant-loop-l : goal.invariant-loop-l
invariant-loop-l g l =
    record {
      long : length l.challenges.items ≡ l.l;
      room : length l.roots ≤ vec_capacity l.challenges;
      drawn : AreDrawn g.T.Transcript.draws l.fn.transcript (take l.l l.roots) l.challenges.items l.transcript;
    }
