use Rattle.p3_dft.proofs.Calls.EngineSteps.{later_still}
use Rattle.p3_dft.proofs.Laws.Codes.{degree_told}
use Rattle.p3_dft.proofs.Laws.TwoCalls.{low_degree}
use Rattle.examples.proofs.published_degree.published_degree.Goals as goal

pub returns-clause-exact : goal.returns-clause-exact
returns-clause-exact g c k high =
    degree_told g.F.Valued _ c.in_ok-kept.kept c.in_ok-coefficients.coefficients _ k high
    (rw c.in_ok-try_clone.ensures.copy at c.in_ok-coefficients.ensures.coefficients) _
    c.has_degree_below-low.result (rw c.height-degree.ensures.height at c.has_degree_below-low.ensures)

pub returns-clause-low : goal.returns-clause-low
returns-clause-low g c =
    c.has_degree_below-low.ensures.1
    (rw c.height-degree.ensures.height
    (low_degree g.F.Valued _ c.args.mat c.in_ok-kept.kept c.in_ok-coefficients.coefficients c.args.added_bits _ c.requires.fits c.in_ok-kept.ensures.extension
    (rw c.in_ok-try_clone.ensures.copy at c.in_ok-coefficients.ensures.coefficients)))

pub returns-clause-later : goal.returns-clause-later
returns-clause-later g c = later_still _ _ _ _ c.in_ok-kept.ensures.later c.in_ok-coefficients.ensures.engine.later
