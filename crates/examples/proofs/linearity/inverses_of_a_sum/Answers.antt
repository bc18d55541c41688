use Rattle.p3_dft.proofs.Laws.TwoCalls.{inverse_of_combination}
use Rattle.p3_dft.proofs.Calls.EngineSteps.{later_still}
use Rattle.examples.proofs.linearity.inverses_of_a_sum.Goals as goal

pub returns-clause-sum : goal.returns-clause-sum
returns-clause-sum g c =
    inverse_of_combination g.F.Valued g.F.TwoAdicField.generator g.met.F.TwoAdicField.roots_law _ _ _
    (g.F.Valued.value c.args.a) (g.F.Valued.value c.args.b) g.F.Valued.ring.one
    c.requires.fits c.requires.shape.0 c.requires.shape.1 c.requires.sum c.in_ok-first.first c.in_ok-second.second c.in_ok-sum.sum
    c.in_ok-first.ensures.coefficients c.in_ok-second.ensures.coefficients c.in_ok-sum.ensures.coefficients

pub returns-clause-later : goal.returns-clause-later
returns-clause-later g c =
    later_still _ _ _ _ (later_still _ _ _ _ c.in_ok-first.ensures.engine.later c.in_ok-second.ensures.engine.later)
    c.in_ok-sum.ensures.engine.later
