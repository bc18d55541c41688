use Rattle.std.proofs.Common.{sym}
use Rattle.p3_dft.proofs.Laws.TwoCalls.{extension_fits, inverse_keeps_coefficients, inverse_of_extension}
use Rattle.p3_dft.proofs.Calls.EngineSteps.{later_still}
use Rattle.examples.proofs.extended.coefficients_of_both.Goals as goal

pub coset_idft_batch-requires-clause-fits : goal.coset_idft_batch-requires-clause-fits
coset_idft_batch-requires-clause-fits g c =
    extension_fits g.F.Valued g.F.TwoAdicField.generator c.args.mat c.to_row_major_matrix.result c.args.added_bits (g.F.Valued.value c.args.shift)
    c.requires.fits (rw c.to_row_major_matrix.ensures c.in_ok-values.ensures.values)

pub returns-clause-zeros : goal.returns-clause-zeros
returns-clause-zeros g c =
    inverse_of_extension g.F.Valued g.F.TwoAdicField.generator g.met.F.TwoAdicField.roots_law c.args.mat _
    c.to_row_major_matrix.result _ c.args.added_bits (g.F.Valued.value c.args.shift)
    c.requires.fits (rw (sym c.in_ok-try_clone.ensures.copy) c.in_ok-coefficients.ensures.coefficients)
    (rw c.to_row_major_matrix.ensures c.in_ok-values.ensures.values) c.in_ok-back.ensures.coefficients

pub returns-clause-rows : goal.returns-clause-rows
returns-clause-rows g c =
    inverse_keeps_coefficients g.F.Valued g.F.TwoAdicField.generator g.met.F.TwoAdicField.roots_law c.args.mat _
    c.to_row_major_matrix.result _ c.args.added_bits (g.F.Valued.value c.args.shift)
    c.requires.fits (rw (sym c.in_ok-try_clone.ensures.copy) c.in_ok-coefficients.ensures.coefficients)
    (rw c.to_row_major_matrix.ensures c.in_ok-values.ensures.values) c.in_ok-back.ensures.coefficients

pub returns-clause-later : goal.returns-clause-later
returns-clause-later g c =
    later_still _ _ _ _
    (later_still _ _ _ _ c.in_ok-coefficients.ensures.engine.later c.in_ok-values.ensures.engine.later)
    c.in_ok-back.ensures.engine.later

pub returns-clause-coefficients : goal.returns-clause-coefficients
returns-clause-coefficients g c = rw (sym c.in_ok-try_clone.ensures.copy) c.in_ok-coefficients.ensures.coefficients
