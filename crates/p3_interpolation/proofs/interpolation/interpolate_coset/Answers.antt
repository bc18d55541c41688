use Rattle.std.proofs.Common.{◌≡◌, ◌+◌, ◌*◌, ◌^◌, ◌<◌, ◌≤◌, length, get_or, refl, sym, ap, ap₂, ◌∙◌, arith, pow_pos, mul-le-mul_right}
use Rattle.p3_matrix.specs.Polynomials.{sum}
use Rattle.p3_matrix.specs.RowMajor.{RowMajor}
use Rattle.p3_matrix.proofs.Polynomials.ByIndex.{sum_same}
use Rattle.p3_matrix.specs.Cosets.{values_of}
use Rattle.p3_dft.proofs.Calls.Shapes.{log_fits_dft}
use Rattle.p3_interpolation.proofs.Laws.{values_by_weights}
use Rattle.p3_interpolation.proofs.interpolation.interpolate_coset.Goals as goal

pub barycentric_weights-requires-clause-size : goal.barycentric_weights-requires-clause-size
barycentric_weights-requires-clause-size g c = (log_fits_dft _ _ c.requires.fits c.log_height-log_height.ensures.power refl).1

pub weighted_rows-requires-clause-size : goal.weighted_rows-requires-clause-size
weighted_rows-requires-clause-size g c =
    let w = c.args.mat.now.width in
    let few : 1 * w ≤ 2 ^ c.requires.fits.log * w = mul-le-mul_right w (pow_pos c.requires.fits.log) in
    let one : c.new_col.result.width ≡ 1 = ap (λ (m : RowMajor g.row.F.Denot). m.width) c.new_col.ensures in
    omega (arith, few, ap (λ n. n * w) one, ap (λ h. h * w) c.requires.fits.height, c.requires.fits.size)

pub returns-clause-values : goal.returns-clause-values
returns-clause-values g c =
    let f = g.F.Valued in
    let m = c.args.mat.now in
    let k = c.log_height-log_height.result in
    let weights = c.in_ok-weights.weights.items in
    let sums = c.in_ok-sums.sums in
    let made = c.in_ok-sums.ensures.sums in
    let one : c.new_col.result.width ≡ 1 = ap (λ (r : RowMajor g.row.F.Denot). r.width) c.new_col.ensures in
    let some : 0 < c.new_col.result.width = omega (arith, one) in
    let single : 1 * m.width ≡ m.width = omega arith in
    let same = c.into_values.ensures.values in
    values_by_weights f g.F.TwoAdicField.generator g.met.F.TwoAdicField.roots_law m k (f.value c.args.shift)
    (f.value c.args.point) (λ i. f.value (get_or weights i f.zero)) c.into_values.result.items
    c.log_height-log_height.ensures.within c.log_height-log_height.ensures.power c.requires.shift c.in_ok-weights.ensures.weights
    (ap length same ∙ sym c.into_values.ensures.whole.full ∙ ap₂ ◌*◌ (made.height ∙ one) made.width ∙ single)
    (λ j inside.
    let first : j ≡ 0 * sums.width + j = omega arith in
    ap (λ xs. f.value (get_or xs j f.zero)) same ∙ ap (λ n. f.value (get_or sums.values n f.zero)) first ∙ made.sums 0 j some inside
    ∙ ap (λ h. sum f.ring h (λ i. f.ring.mul ((values_of f m).entry i j) ((values_of f c.new_col.result).entry i 0))) c.log_height-log_height.ensures.power
    ∙ sum_same f.ring (2 ^ k) _ (λ i. f.ring.mul ((values_of f m).entry i j) (f.value (get_or weights i f.zero)))
    (λ i below.
    let place : i * 1 + 0 ≡ i = omega arith in
    ap (f.ring.mul ((values_of f m).entry i j))
    (ap (λ (r : RowMajor g.row.F.Denot). f.value (get_or r.values (i * r.width + 0) f.zero)) c.new_col.ensures ∙ ap
    (λ n. f.value (get_or weights n f.zero)) place)))
