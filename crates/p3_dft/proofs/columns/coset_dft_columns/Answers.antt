use Rattle.p3_dft.proofs.Lemmas.{sym, subst, RowMajor, column_shift, IsTransform, transform_by_columns}
use Rattle.p3_dft.proofs.columns.coset_dft_columns.Goals as goal

pub returns-clause-values : goal.returns-clause-values
returns-clause-values g c =
    let field = g.F.Valued in
    let generator = g.F.TwoAdicField.generator in
    let shifted = c.shift_each_column.new.mat in
    let out = c.to_row_major_matrix.result in
    let shifts = column_shift field.ring (field.value c.args.shift) (field.value c.args.step) in
    let transform =
    subst (λ (y : RowMajor g.row.F.Denot). IsTransform field generator shifted field.ring.one y)
    (sym c.to_row_major_matrix.ensures) c.in_ok-values.ensures.values in
    transform_by_columns field generator g.F.TwoAdicField.TWO_ADICITY c.args.mat shifted out shifts c.requires.fits
    c.shift_each_column.ensures.shifted transform
