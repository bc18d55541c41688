use Rattle.std.proofs.Common.{◌∙◌, ◌+◌}
use Rattle.p3_dft.specs.Extensions.{IsExtension}
use Rattle.p3_dft.proofs.Laws.TwoCalls.{low_degree, extension_fits}
use Rattle.std.proofs.lemmas.Result.{IfOk-weaker}
use Rattle.examples.proofs.extended.coefficients_of_an_extension.Goals as goal

pub coset_idft_batch-requires-clause-fits : goal.coset_idft_batch-requires-clause-fits
coset_idft_batch-requires-clause-fits g c =
    extension_fits g.F.Valued g.F.TwoAdicField.generator c.args.mat c.to_row_major_matrix.result c.args.added_bits (g.F.Valued.value c.args.shift)
    c.requires.fits (rw c.to_row_major_matrix.ensures c.in_ok-values.ensures.values)

pub returns-clause-zeros : goal.returns-clause-zeros
returns-clause-zeros g c =
    IfOk-weaker c.coset_idft_batch.result _ _
    (λ back given. low_degree g.F.Valued g.F.TwoAdicField.generator c.args.mat c.to_row_major_matrix.result back
    c.args.added_bits (g.F.Valued.value c.args.shift) c.requires.fits
    (rw c.to_row_major_matrix.ensures c.in_ok-values.ensures.values) given)
    c.coset_idft_batch.ensures.coefficients

pub returns-clause-height : goal.returns-clause-height
returns-clause-height g c =
    let extended : IsExtension g.F.Valued g.F.TwoAdicField.generator c.args.mat c.args.added_bits
    (g.F.Valued.value c.args.shift) c.to_row_major_matrix.result =
    rw c.to_row_major_matrix.ensures c.in_ok-values.ensures.values in
    IfOk-weaker c.coset_idft_batch.result _ _
    (λ back given k high. let tall = (extended.extended k high).height in (given.holds (k + c.args.added_bits) tall).height ∙ tall)
    c.coset_idft_batch.ensures.coefficients
