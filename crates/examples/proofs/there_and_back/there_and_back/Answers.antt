use Rattle.p3_dft.proofs.Laws.TwoCalls.{inverse_of_transform, transform_fits}
use Rattle.std.proofs.lemmas.Result.{IfOk-weaker}
use Rattle.examples.proofs.there_and_back.there_and_back.Goals as goal

pub coset_idft_batch-requires-clause-fits : goal.coset_idft_batch-requires-clause-fits
coset_idft_batch-requires-clause-fits g c =
    transform_fits g.F.Valued g.F.TwoAdicField.generator c.args.mat c.to_row_major_matrix.result (g.F.Valued.value c.args.shift)
    c.requires.fits (rw c.to_row_major_matrix.ensures c.in_ok-values.ensures.values)

pub returns-clause-same : goal.returns-clause-same
returns-clause-same g c =
    IfOk-weaker c.coset_idft_batch.result _ _
    (λ back given. inverse_of_transform g.F.Valued g.F.TwoAdicField.generator c.args.mat c.to_row_major_matrix.result
    back (g.F.Valued.value c.args.shift) c.requires.fits
    (rw c.to_row_major_matrix.ensures c.in_ok-values.ensures.values) given)
    c.coset_idft_batch.ensures.coefficients
