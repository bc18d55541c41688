use Rattle.std.proofs.Common.{rules}
use Rattle.liktrob.proofs.Shapes.{values_size}
use Rattle.liktrob.proofs.engines.extension.Goals as goal

pub returns-clause-size : goal.returns-clause-size
returns-clause-size g c =
    let fits = c.requires in
    let extension = c.in_ok-values.ensures.values in
    values_size g.F.Valued (λ n. g.F.Valued.value (g.F.TwoAdicField.generator n)) c.args.mat
    c.to_row_major_matrix.result fits.log c.args.added_bits (g.F.Valued.value c.args.shift) extension.coefficients
    (search rules) (search rules)
    fits.height (extension.are_coefficients fits.log fits.height).width (rw c.to_row_major_matrix.ensures (extension.extended fits.log fits.height))
