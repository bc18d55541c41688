-- The shapes of what the steps make, and then one use of the law of parts.
use Rattle.std.proofs.Common.{◌≡◌, ℕ, ◌+◌, ◌*◌, ◌^◌, ◌<◌, ◌≤◌, get_or, length, ap, ap₂, sym, ◌∙◌, subst, arith, pow-add, pow_pos}
use Rattle.std.proofs.lemmas.Nat.{one_shl}
use Rattle.std.proofs.lemmas.Result.{IfOk-weaker}
use Rattle.p3_matrix.specs.Cosets.{point}
use Rattle.p3_matrix.specs.RowMajor.{height}
use Rattle.p3_dft.specs.Parts.{row_as_matrix}
use Rattle.p3_dft.specs.Transforms.{IsTransform}
use Rattle.p3_dft.proofs.Calls.EngineSteps.{later_still}
use Rattle.p3_dft.proofs.Calls.Shapes.{fits_dft_as}
use Rattle.p3_dft.proofs.Laws.Parts.{transform_by_parts}
use Rattle.examples.proofs.Parts.{fits_as_parts, logs_of_parts, shapes_of_parts}
use Rattle.examples.proofs.by_parts.coset_dft_by_parts.Goals as goal

pub transform_wide_rows-requires-clause-whole : goal.transform_wide_rows-requires-clause-whole
transform_wide_rows-requires-clause-whole g c = (c.args.log_parts, c.log_rows_of_part-log_rows.ensures)

pub transform_each_row-requires-clause-fits : goal.transform_each_row-requires-clause-fits
transform_each_row-requires-clause-fits g c =
    fits_dft_as _ _ _ _ _ c.requires.fits (sym c.log_rows_of_part-log_rows.ensures) c.width-width.ensures.width

pub transform_each_row-requires-clause-tall : goal.transform_each_row-requires-clause-tall
transform_each_row-requires-clause-tall g c = (c.in_ok-wide.ensures.shape c.args.log_parts c.log_rows_of_part-log_rows.ensures).0

pub transform_each_row-requires-clause-wide : goal.transform_each_row-requires-clause-wide
transform_each_row-requires-clause-wide g c =
    (c.in_ok-wide.ensures.shape c.args.log_parts c.log_rows_of_part-log_rows.ensures).1
    ∙ ap (λ w. 2 ^ c.log_rows_of_part-log_rows.result * w) (sym c.width-width.ensures.width)

pub overflow_shl-rows : goal.overflow_shl-rows
overflow_shl-rows g c =
    let b = c.log_rows_of_part-log_rows.result in
    let fits = fits_as_parts g.F.Valued c.args.coefficients c.args.log_parts b c.requires.fits c.log_rows_of_part-log_rows.ensures in
    omega (arith, (logs_of_parts c.args.log_parts b fits).1)

pub interleave-requires-clause-some : goal.interleave-requires-clause-some
interleave-requires-clause-some g c = omega (arith, ap length c.deref.ensures.value, c.in_ok-parts.ensures.count, pow_pos c.args.log_parts)

pub interleave-requires-clause-size : goal.interleave-requires-clause-size
interleave-requires-clause-size g c =
    let m = c.args.coefficients in
    let a = c.args.log_parts in
    let b = c.log_rows_of_part-log_rows.result in
    let high = c.log_rows_of_part-log_rows.ensures in
    let shifted = one_shl b 64 (omega (arith, (logs_of_parts a b (fits_as_parts g.F.Valued m a b c.requires.fits high)).1)) in
    let count = ap length c.deref.ensures.value ∙ c.in_ok-parts.ensures.count in
    let entries = ap₂ (λ (x y : ℕ). x * y) (ap₂ (λ (x y : ℕ). x * y) count shifted) c.width-width.ensures.width in
    omega (arith, entries, ap (λ h. h * m.width) (high ∙ pow-add 2 a b), c.requires.fits.size)

pub interleave-requires-clause-shapes : goal.interleave-requires-clause-shapes
interleave-requires-clause-shapes g c = λ i d below.
    let f = g.F.Valued in
    let gen = g.F.TwoAdicField.generator in
    let m = c.args.coefficients in
    let a = c.args.log_parts in
    let b = c.log_rows_of_part-log_rows.result in
    let high = c.log_rows_of_part-log_rows.ensures in
    let shifted = one_shl b 64 (omega (arith, (logs_of_parts a b (fits_as_parts f m a b c.requires.fits high)).1)) in
    let wide = c.in_ok-wide.ensures.shape a high in
    let w = c.width-width.result in
    let some : 1 ≤ w = omega (arith, c.width-width.ensures.width, c.requires.fits.width) in
    let inside : i < 2 ^ a = omega (arith, below, ap length c.deref.ensures.value, c.in_ok-parts.ensures.count) in
    let known = shapes_of_parts f gen c.in_ok-wide.wide c.in_ok-parts.parts.items a b w _ some wide.0
    (wide.1 ∙ ap (λ v. 2 ^ b * v) (sym c.width-width.ensures.width)) c.in_ok-parts.ensures.parts i d inside in
    let read = ap (λ xs. get_or xs i d) c.deref.ensures.value in
    (ap (λ p. height p) read ∙ known.0 ∙ sym shifted, ap (λ p. p.width) read ∙ known.1)

pub returns-clause-values : goal.returns-clause-values
returns-clause-values g c =
    let f = g.F.Valued in
    let gen = g.F.TwoAdicField.generator in
    let m = c.args.coefficients in
    let a = c.args.log_parts in
    let b = c.log_rows_of_part-log_rows.result in
    let high = c.log_rows_of_part-log_rows.ensures in
    let parts = λ (i : ℕ). get_or c.in_ok-parts.parts.items i m in
    let shifted = one_shl b 64 (omega (arith, (logs_of_parts a b (fits_as_parts f m a b c.requires.fits high)).1)) in
    let count : length c.deref.result.now ≡ 2 ^ a = ap length c.deref.ensures.value ∙ c.in_ok-parts.ensures.count in
    let each : (i : ℕ) → i < 2 ^ a
    → IsTransform f gen (row_as_matrix m.width c.in_ok-wide.wide i) (point f.ring (λ n. f.value (gen n)) (a + b) (f.value c.args.shift) i) (parts i) =
    λ i below.
    subst
    (λ w. IsTransform f gen (row_as_matrix w c.in_ok-wide.wide i) (point f.ring (λ n. f.value (gen n)) (a + b) (f.value c.args.shift) i) (parts i))
    c.width-width.ensures.width (c.in_ok-parts.ensures.parts i m below) in
    IfOk-weaker c.interleave.result _ _
    (λ out given.
    transform_by_parts f gen g.met.F.TwoAdicField.roots_law m c.in_ok-wide.wide out parts a b (f.value c.args.shift) c.requires.fits high
    c.in_ok-wide.ensures.values each (rw (sym count, sym shifted, sym c.deref.ensures.value) (given m)))
    c.interleave.ensures.interleaved

pub returns-clause-later : goal.returns-clause-later
returns-clause-later g c = later_still g.D.TwoAdicSubgroupDft.facts _ _ _ c.in_ok-wide.ensures.later c.in_ok-parts.ensures.later
