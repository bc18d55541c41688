use Rattle.std.proofs.Common.{sym, ◌∙◌}
use Rattle.std.proofs.lemmas.Bool.{true≢false}
use Rattle.p3_dft.proofs.Laws.Codes.{codewords_apart}
use Rattle.p3_dft.proofs.Laws.Equality.{equal_of_same}
use Rattle.p3_dft_tests.proofs.tests.reed_solomon.lie_apart.Goals as goal

pub returns-then-first-clause-distance : goal.returns-then-first-clause-distance
returns-then-first-clause-distance g c told =
    codewords_apart g.F.Valued g.F.TwoAdicField.generator g.met.F.TwoAdicField.roots_law c.args.code.now.code c.requires.is_code
    g.F.PartialEq.eq g.met.F.Field.eq_law c.args.one.now c.args.other.now
    (c.in_ok-first.ensures.exact.0 c.if-first.true) (rw c.in_ok-first.ensures.code at (c.in_ok-second.ensures.exact.0 told)) (sym c.requires.width)
    (λ same. true≢false (sym (c.eq.ensures
    ∙ equal_of_same g.F.Valued g.F.PartialEq.eq g.met.F.Field.eq_law c.args.one.now c.args.other.now
    c.height.ensures.whole c.height-2.ensures.whole same) ∙ c.if-eq.false))
