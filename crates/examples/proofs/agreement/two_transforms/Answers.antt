use Rattle.std.proofs.Common.{sym}
use Rattle.p3_dft.proofs.Laws.OneAnswer.{one_transform}
use Rattle.examples.proofs.agreement.two_transforms.Goals as goal

pub returns-clause-values : goal.returns-clause-values
returns-clause-values g c = rw (c.to_row_major_matrix-first.ensures, sym c.in_ok-try_clone.ensures.copy) c.in_ok-coset_dft_batch.ensures.values

pub returns-clause-same : goal.returns-clause-same
returns-clause-same g c =
    one_transform g.F.Valued g.F.TwoAdicField.generator g.F.TwoAdicField.TWO_ADICITY g.met.F.TwoAdicField.roots_law
    c.args.mat c.to_row_major_matrix-first.result c.to_row_major_matrix-second.result
    (g.F.Valued.value c.args.shift) c.requires
    (rw (c.to_row_major_matrix-first.ensures, sym c.in_ok-try_clone.ensures.copy) c.in_ok-coset_dft_batch.ensures.values)
    (rw c.to_row_major_matrix-second.ensures c.in_ok-coset_dft_batch-2.ensures.values)
