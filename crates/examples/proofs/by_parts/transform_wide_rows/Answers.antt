use Rattle.std.proofs.Common.{◌≡◌, ℕ, ◌*◌, ◌/◌, ◌^◌, length, ap, ap₂, sym, ◌∙◌, subst, arith, pow-add}
use Rattle.std.proofs.lemmas.Nat.{one_shl}
use Rattle.p3_matrix.specs.RowMajor.{height}
use Rattle.p3_matrix.proofs.RowMajor.{whole_rows}
use Rattle.p3_dft.specs.Parts.{wide_rows}
use Rattle.p3_dft.specs.Shapes.{FitsDft}
use Rattle.examples.proofs.Parts.{fits_as_parts, logs_of_parts, part_some, part_within, transform_as, wide_fits, wide_shape}
use Rattle.examples.proofs.by_parts.transform_wide_rows.Goals as goal

pub overflow_shl-rows : goal.overflow_shl-rows
overflow_shl-rows g c =
    let whole = c.requires.whole in
    omega (arith, (logs_of_parts whole.0 c.args.log_rows (fits_as_parts g.F.Valued c.args.coefficients _ _ c.requires.fits whole.1)).1)

pub overflow_mul-rows : goal.overflow_mul-rows
overflow_mul-rows g c =
    let a = c.requires.whole.0 in
    let b = c.args.log_rows in
    let fits = fits_as_parts g.F.Valued c.args.coefficients a b c.requires.fits c.requires.whole.1 in
    let shifted = one_shl b 64 (omega (arith, (logs_of_parts a b fits).1)) in
    omega (arith, ap₂ (λ (x y : ℕ). x * y) shifted c.width-width.ensures.width, part_within a b fits, fits.size)

pub new-wide-requires-clause-width : goal.new-wide-requires-clause-width
new-wide-requires-clause-width g c =
    let a = c.requires.whole.0 in
    let b = c.args.log_rows in
    let fits = fits_as_parts g.F.Valued c.args.coefficients a b c.requires.fits c.requires.whole.1 in
    let shifted = one_shl b 64 (omega (arith, (logs_of_parts a b fits).1)) in
    omega (arith, ap₂ (λ (x y : ℕ). x * y) shifted c.width-width.ensures.width, part_some a b fits)

pub new-wide-requires-clause-full : goal.new-wide-requires-clause-full
new-wide-requires-clause-full g c =
    let m = c.args.coefficients in
    let a = c.requires.whole.0 in
    let b = c.args.log_rows in
    let fits = fits_as_parts g.F.Valued m a b c.requires.fits c.requires.whole.1 in
    let width = ap₂ (λ (x y : ℕ). x * y) (one_shl b 64 (omega (arith, (logs_of_parts a b fits).1))) c.width-width.ensures.width in
    let entries : length m.values ≡ 2 ^ a * (2 ^ b * m.width) =
    sym c.width-width.ensures.whole.full ∙ ap (λ h. h * m.width) (c.requires.whole.1 ∙ pow-add 2 a b) ∙ omega arith in
    subst (λ (n : ℕ). length c.into_values.result.items / n * n ≡ length c.into_values.result.items) (sym width)
    (whole_rows _ (2 ^ a) (2 ^ b * m.width) (part_some a b fits) (ap length c.into_values.ensures.values ∙ entries)).1

pub coset_dft_batch-requires : goal.coset_dft_batch-requires
coset_dft_batch-requires g c =
    let m = c.args.coefficients in
    let a = c.requires.whole.0 in
    let b = c.args.log_rows in
    let fits = fits_as_parts g.F.Valued m a b c.requires.fits c.requires.whole.1 in
    let width = ap₂ (λ (x y : ℕ). x * y) (one_shl b 64 (omega (arith, (logs_of_parts a b fits).1))) c.width-width.ensures.width in
    let is : c.new-wide.result ≡ wide_rows (2 ^ b) m =
    c.new-wide.ensures ∙ ap₂ (λ w vs. record { width = w; values = vs }) width c.into_values.ensures.values in
    record {
      fits =
          subst (λ p. FitsDft g.F.TwoAdicField.TWO_ADICITY (height p) p.width) (sym is) (wide_fits g.F.Valued m a b c.requires.fits c.requires.whole.1);
    }

pub returns-clause-values : goal.returns-clause-values
returns-clause-values g c =
    let m = c.args.coefficients in
    let a = c.requires.whole.0 in
    let b = c.args.log_rows in
    let fits = fits_as_parts g.F.Valued m a b c.requires.fits c.requires.whole.1 in
    let width = ap₂ (λ (x y : ℕ). x * y) (one_shl b 64 (omega (arith, (logs_of_parts a b fits).1))) c.width-width.ensures.width in
    let is : c.new-wide.result ≡ wide_rows (2 ^ b) m =
    c.new-wide.ensures ∙ ap₂ (λ w vs. record { width = w; values = vs }) width c.into_values.ensures.values in
    transform_as g.F.Valued g.F.TwoAdicField.generator c.new-wide.result (wide_rows (2 ^ b) m) _ _ _ _ is c.exp_power_of_2.ensures
    c.to_row_major_matrix-wide.ensures c.in_ok-coset_dft_batch.ensures.values

pub returns-clause-shape : goal.returns-clause-shape
returns-clause-shape g c = λ a high.
    wide_shape g.F.Valued c.args.coefficients a c.args.log_rows c.requires.fits high g.F.TwoAdicField.generator _ _ (returns-clause-values g c)
