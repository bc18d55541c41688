use Rattle.p3_dft.proofs.Lemmas.{ℕ, ◌≡◌, ◌^◌, ◌∙◌, ap, arith, sym, IfOk-weaker, RowMajor, height, padded_shape, extended_after, transform_of_shifted}
use Rattle.p3_dft.proofs.Lemmas.{output_fits, output_log_small, output_size}
use Rattle.p3_dft.proofs.traits.TwoAdicSubgroupDft.coset_lde_batch_of_coefficients.Goals as goal

pub pad_rows-requires-clause-bits : goal.pad_rows-requires-clause-bits
pad_rows-requires-clause-bits g c = let small = output_log_small _ _ _ _ c.requires.fits in omega arith

pub pad_rows-requires-clause-size : goal.pad_rows-requires-clause-size
pad_rows-requires-clause-size g c =
    let same = c.shift_rows.ensures.shifted in
    rw (same.height, same.width, c.into_row_major_matrix-coefficients.ensures) (output_size _ _ _ _ c.requires.fits)

pub dft_batch-requires : goal.dft_batch-requires
dft_batch-requires g c =
    let fits = c.requires.fits in
    let same = c.shift_rows.ensures.shifted in
    let stored = c.into_row_major_matrix-coefficients.ensures in
    let grown = padded_shape g.F.Valued.zero (g.N.IntoRowMajorMatrix.stored c.args.mat) c.shift_rows.new.mat
    c.in_ok-padded.padded c.args.added_bits fits.log c.pad_rows.ensures.whole
    (same.height ∙ ap height stored, same.width ∙ ap (λ (m : RowMajor g.row.F.Denot). m.width) stored) fits.height c.in_ok-padded.ensures.padded in
    record { fits = output_fits _ _ _ c.args.added_bits _ _ fits grown.0 grown.1 }

pub returns-clause-values : goal.returns-clause-values
returns-clause-values g c =
    rw (← c.into_row_major_matrix-coefficients.ensures)
    (IfOk-weaker c.dft_batch.result _ _
    (λ out given. transform_of_shifted g.F.Valued g.F.TwoAdicField.generator
    (ap g.F.Valued.value (sym g.met.F.Field.same_zero) ∙ g.met.F.Field.zero_law)
    c.into_row_major_matrix-coefficients.result c.shift_rows.new.mat _ c.args.added_bits
    (g.F.Valued.value c.args.shift)
    c.shift_rows.ensures.shifted c.pad_rows.ensures.whole (rw c.in_ok-padded.ensures.padded at given))
    c.dft_batch.ensures.values)

pub returns-clause-engine : goal.returns-clause-engine
returns-clause-engine g c =
    let fits = c.requires.fits in
    let same = c.shift_rows.ensures.shifted in
    let stored = c.into_row_major_matrix-coefficients.ensures in
    let m = c.into_row_major_matrix-coefficients.result in
    let grown =
    λ (k : ℕ) (e : height m ≡ 2 ^ k). padded_shape g.F.Valued.zero m c.shift_rows.new.mat c.in_ok-padded.padded
    c.args.added_bits k c.pad_rows.ensures.whole (same.height, same.width) e c.in_ok-padded.ensures.padded in
    let high = ap height stored ∙ fits.height in
    rw stored at
    (extended_after m c.in_ok-padded.padded c.args.added_bits fits.log high
    (λ k e. (grown k e).0) (grown fits.log high).1
    (omega (arith, c.shift_rows.ensures.cost, c.new-products.ensures)) c.add_products.ensures.engine c.dft_batch.ensures.engine)
