use Rattle.std.proofs.Common.{sym}
use Rattle.p3_dft.proofs.Laws.TwoCalls.{one_list_of_answers}
use Rattle.examples.proofs.Refusals.{told_by_stopped}
use Rattle.examples.proofs.agreement.two_lists_of_answers.Goals as goal

pub returns-clause-same : goal.returns-clause-same
returns-clause-same g c =
    one_list_of_answers g.F.Valued g.F.TwoAdicField.generator g.met.F.TwoAdicField.roots_law c.args.jobs.items _ _ c.requires.runnable c.in_ok-first.ensures.all
    (rw (sym c.requires.again) c.in_ok-second.ensures.all)

pub returns-in_err-first-clause-refused : goal.returns-in_err-first-clause-refused
returns-in_err-first-clause-refused g c =
    told_by_stopped g.D.TwoAdicSubgroupDft.facts _ _ _ _ _ c.from_residual.result _ c.from_residual.ensures
    c.in_err-first.ensures.room

pub returns-in_err-second-clause-refused : goal.returns-in_err-second-clause-refused
returns-in_err-second-clause-refused g c =
    told_by_stopped g.E.TwoAdicSubgroupDft.facts _ _ _ _ _ c.from_residual-in_err-second.result _
    c.from_residual-in_err-second.ensures c.in_err-second.ensures.room
