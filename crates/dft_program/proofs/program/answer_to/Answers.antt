use Rattle.std.proofs.Common.{ap, subst}
use Rattle.p3_dft.specs.Jobs.{CanRun, answer_entries}
use Rattle.dft_program.proofs.Refused.{JobRefused, dft_refused, handed_on, lde_refused}
use Rattle.dft_program.proofs.program.answer_to.Goals as goal

pub returns-in-Idft-clause-refused : goal.returns-in-Idft-clause-refused
returns-in-Idft-clause-refused g c =
    dft_refused g.D.TwoAdicSubgroupDft.facts _ c.args.job c.in-Idft.matrix c.args.engine.now c.idft_batch.new.self c.idft_batch.result 1
    (ap answer_entries c.in-Idft.is) c.idft_batch.ensures.engine

pub returns-in-CosetIdft-clause-refused : goal.returns-in-CosetIdft-clause-refused
returns-in-CosetIdft-clause-refused g c =
    dft_refused g.D.TwoAdicSubgroupDft.facts _ c.args.job c.in-CosetIdft.matrix c.args.engine.now c.coset_idft_batch.new.self c.coset_idft_batch.result 2
    (ap answer_entries c.in-CosetIdft.is) c.coset_idft_batch.ensures.engine

pub returns-in_err-values-in-Dft-clause-refused : goal.returns-in_err-values-in-Dft-clause-refused
returns-in_err-values-in-Dft-clause-refused g c =
    handed_on (JobRefused g.D.TwoAdicSubgroupDft.facts _ c.args.engine.now c.args.job) c.dft_batch.result _
    c.from_residual.result c.in_err-values-in-Dft.was c.from_residual.ensures
    (dft_refused g.D.TwoAdicSubgroupDft.facts _ c.args.job c.in-Dft.matrix c.args.engine.now c.dft_batch.new.self c.dft_batch.result 0
    (ap answer_entries c.in-Dft.is) c.dft_batch.ensures.engine)

pub returns-in_err-values-in-CosetDft-clause-refused : goal.returns-in_err-values-in-CosetDft-clause-refused
returns-in_err-values-in-CosetDft-clause-refused g c =
    handed_on (JobRefused g.D.TwoAdicSubgroupDft.facts _ c.args.engine.now c.args.job) c.coset_dft_batch.result _
    c.from_residual-in_err-values-in-CosetDft.result c.in_err-values-in-CosetDft.was c.from_residual-in_err-values-in-CosetDft.ensures
    (dft_refused g.D.TwoAdicSubgroupDft.facts _ c.args.job c.in-CosetDft.matrix c.args.engine.now c.coset_dft_batch.new.self c.coset_dft_batch.result 1
    (ap answer_entries c.in-CosetDft.is) c.coset_dft_batch.ensures.engine)

pub returns-in_err-values-in-Lde-clause-refused : goal.returns-in_err-values-in-Lde-clause-refused
returns-in_err-values-in-Lde-clause-refused g c =
    handed_on (JobRefused g.D.TwoAdicSubgroupDft.facts _ c.args.engine.now c.args.job) c.lde_batch.result _
    c.from_residual-in_err-values-in-Lde.result c.in_err-values-in-Lde.was c.from_residual-in_err-values-in-Lde.ensures
    (lde_refused g.D.TwoAdicSubgroupDft.facts _ c.args.job c.in-Lde.matrix c.args.engine.now c.lde_batch.new.self c.lde_batch.result
    g.F.TwoAdicField.TWO_ADICITY c.in-Lde.added_bits (subst (CanRun g.F.Valued g.F.TwoAdicField.TWO_ADICITY) c.in-Lde.is c.requires.runnable)
    (ap answer_entries c.in-Lde.is) c.lde_batch.ensures.engine)

pub returns-in_err-values-in-CosetLde-clause-refused : goal.returns-in_err-values-in-CosetLde-clause-refused
returns-in_err-values-in-CosetLde-clause-refused g c =
    handed_on (JobRefused g.D.TwoAdicSubgroupDft.facts _ c.args.engine.now c.args.job) c.coset_lde_batch.result _
    c.from_residual-in_err-values-in-CosetLde.result c.in_err-values-in-CosetLde.was c.from_residual-in_err-values-in-CosetLde.ensures
    (lde_refused g.D.TwoAdicSubgroupDft.facts _ c.args.job c.in-CosetLde.matrix c.args.engine.now c.coset_lde_batch.new.self c.coset_lde_batch.result
    g.F.TwoAdicField.TWO_ADICITY c.in-CosetLde.added_bits (subst (CanRun g.F.Valued g.F.TwoAdicField.TWO_ADICITY) c.in-CosetLde.is c.requires.runnable)
    (ap answer_entries c.in-CosetLde.is) c.coset_lde_batch.ensures.engine)
