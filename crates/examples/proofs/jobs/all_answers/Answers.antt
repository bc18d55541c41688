use Rattle.examples.proofs.Refusals.{told_by_jobs}
use Rattle.examples.proofs.jobs.all_answers.Goals as goal

pub returns-in_err-answers-clause-refused : goal.returns-in_err-answers-clause-refused
returns-in_err-answers-clause-refused g c =
    told_by_jobs g.D.TwoAdicSubgroupDft.facts _ _ _ _ _ c.from_residual.result _ c.from_residual.ensures
    c.in_err-answers.ensures.room
