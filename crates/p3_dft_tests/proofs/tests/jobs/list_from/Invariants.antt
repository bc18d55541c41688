use Rattle.std.specs.List.{All}
use Rattle.p3_dft.specs.Jobs.{CanRun}
use Rattle.p3_dft_tests.proofs.tests.jobs.list_from.Given as goal

abbrev pub invariant-loop-n : goal.invariant-loop-n
invariant-loop-n g l = All (CanRun g.F.Valued g.F.TwoAdicField.TWO_ADICITY) l.jobs.items
