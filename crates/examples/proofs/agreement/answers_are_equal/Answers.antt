use Rattle.std.proofs.Common.{sym, ◌∙◌}
use Rattle.p3_dft.proofs.Laws.Equality.{equal_of_same}
use Rattle.p3_dft.proofs.Laws.OneAnswer.{one_answer}
use Rattle.examples.proofs.agreement.answers_are_equal.Goals as goal

pub returns : goal.returns
returns g c =
    c.eq.ensures
    ∙ equal_of_same g.F.Valued g.F.PartialEq.eq g.met.F.Field.eq_law c.args.one c.args.other
    (rw (sym c.one.view_is) c.one.invariant) (rw (sym c.other.view_is) c.other.invariant)
    (one_answer g.F.Valued g.F.TwoAdicField.generator g.F.TwoAdicField.TWO_ADICITY g.met.F.TwoAdicField.roots_law
    c.args._job.now c.args.one c.args.other c.requires.runnable c.requires.one c.requires.other)
