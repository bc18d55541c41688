use Rattle.p3_dft.proofs.Lemmas.{ℕ, ◌<◌, subst, IsInvertible, column_shift}
use Rattle.p3_dft.proofs.Calls.ColumnCosets.{column_inverse, first_column_shift, interpolation_by_columns}
use Rattle.p3_dft.proofs.columns.coset_idft_columns.Goals as goal

pub returns-clause-coefficients : goal.returns-clause-coefficients
returns-clause-coefficients g c =
    let field = g.F.Valued in
    let ring = field.ring in
    let generator = g.F.TwoAdicField.generator in
    let s = field.value c.args.shift in
    let t = field.value c.args.step in
    let s' = field.value c.inverse_or_one.result in
    let t' = field.value c.inverse_or_one-2.result in
    let first : IsInvertible ring s =
    subst (λ (x : field.Element). IsInvertible ring x) (first_column_shift ring s t)
    (c.requires.invertible 0 c.requires.fits.width) in
    let inverse =
    λ (j : ℕ) (inside : j < c.args.mat.width). column_inverse ring s t s' t' (c.inverse_or_one.ensures first)
    c.inverse_or_one-2.ensures j (c.requires.invertible j inside) in
    interpolation_by_columns field generator g.F.TwoAdicField.TWO_ADICITY g.met.F.TwoAdicField.roots_law c.args.mat
    c.in_ok-coefficients.coefficients c.shift_each_column.new.mat
    (column_shift ring s t) (column_shift ring s' t') c.requires.fits inverse c.in_ok-coefficients.ensures.coefficients c.shift_each_column.ensures.shifted
