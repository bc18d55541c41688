use Rattle.std.proofs.Common.{sym}
use Rattle.p3_dft.proofs.Laws.Codes.{one_codeword}
use Rattle.p3_dft_tests.proofs.tests.reed_solomon.told_by_few_rows.Goals as goal

pub returns-then-first-clause-distance : goal.returns-then-first-clause-distance
returns-then-first-clause-distance g c told agree =
    one_codeword g.F.Valued g.F.TwoAdicField.generator g.met.F.TwoAdicField.roots_law c.args.code.now.code c.requires.is_code _ _
    (c.in_ok-first.ensures.exact.0 c.if-first.true) (rw c.in_ok-first.ensures.code at (c.in_ok-second.ensures.exact.0 told)) (sym c.requires.width) agree
