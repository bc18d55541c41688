use Rattle.std.proofs.Common.{refl, rules}
use Rattle.p3_matrix.specs.Cosets.{values_of}
use Rattle.liktrob.proofs.Shapes.{values_size}
use Rattle.liktrob.proofs.engines.extension_of_coefficients.Goals as goal

pub returns-clause-size : goal.returns-clause-size
returns-clause-size g c =
    let fits = c.requires in
    values_size g.F.Valued (λ n. g.F.Valued.value (g.F.TwoAdicField.generator n)) c.args.mat
    c.to_row_major_matrix.result fits.log c.args.added_bits (g.F.Valued.value c.args.shift)
    (values_of g.F.Valued c.args.mat) (search rules) (search rules)
    fits.height refl (rw c.to_row_major_matrix.ensures (c.in_ok-values.ensures.values fits.log fits.height))
