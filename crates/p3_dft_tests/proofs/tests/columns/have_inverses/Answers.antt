use Rattle.std.proofs.Common.{◌≡◌, ℕ, arith, refl, subst, sym}
use Rattle.p3_field.specs.Ring.{IsInvertible, power}
use Rattle.p3_dft.specs.ColumnCosets.{column_shift}
use Rattle.p3_dft.proofs.Calls.ColumnCosets.{first_column_shift}
use Rattle.p3_dft.proofs.Laws.Points.{power_invertible, product_invertible}
use Rattle.p3_dft_tests.proofs.tests.columns.have_inverses.Goals as goal

-- the single column is column 0
pub returns-then-width-eq1 : goal.returns-then-width-eq1
returns-then-width-eq1 g c one j inside =
    let ring = g.F.Valued.ring in
    let s = g.F.Valued.value c.args.shift in
    let t = g.F.Valued.value c.args.step in
    let zeroth : j ≡ 0 = omega (arith, inside, c.if-width-eq1.true) in
    let same : column_shift ring s t j ≡ s = subst (λ (i : ℕ). column_shift ring s t i ≡ s) (sym zeroth) (first_column_shift ring s t) in
    subst (λ (x : g.F.Valued.Element). IsInvertible ring x) (sym same) (c.has_inverse.ensures.0 c.if-has_inverse.true)

pub returns-else-width-eq1 : goal.returns-else-width-eq1
returns-else-width-eq1 g c told j inside =
    let ring = g.F.Valued.ring in
    let s = g.F.Valued.value c.args.shift in
    let t = g.F.Valued.value c.args.step in
    product_invertible ring s (power ring t j) (column_shift ring s t j) refl (c.has_inverse.ensures.0 c.if-has_inverse.true)
    (power_invertible ring t (power ring t j) j refl (c.has_inverse-else-width-eq1.ensures.0 told))
