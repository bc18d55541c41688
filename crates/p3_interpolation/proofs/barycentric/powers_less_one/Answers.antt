use Rattle.std.proofs.Common.{◌≡◌, length, get_or, ap, ap₂, ◌∙◌, arith}
use Rattle.p3_field.specs.Ring.{power, minus}
use Rattle.p3_matrix.proofs.Rows.Overwritten.{written}
use Rattle.p3_interpolation.proofs.barycentric.powers_less_one.Goals as goal

pub returns : goal.returns
returns g c =
    let f = g.F.Valued in
    let new = c.subtract_one.new.elements in
    let same = written _ new _ (c.subtract_one.auto.elements ∙ c.as_mut_slice.ensures.len) in
    let long : length c.as_mut_slice.result.now ≡ c.args.n = c.as_mut_slice.ensures.len ∙ c.in_ok-powers.ensures.long in
    record {
      long = ap length same ∙ c.subtract_one.auto.elements ∙ long;
      values = λ i below.
          ap (λ xs. f.value (get_or xs i f.zero)) same ∙ c.subtract_one.ensures i (omega (arith, below, long))
          ∙ ap (λ x. minus f.ring x f.ring.one)
          (ap (λ xs. f.value (get_or xs i f.zero)) c.as_mut_slice.ensures.value ∙ c.in_ok-powers.ensures.powers i below
          ∙ ap₂ (λ a b. f.ring.mul (f.value a) (power f.ring (f.value b) i)) c.shifted_powers.ensures.start c.shifted_powers.ensures.base);
      room = tt;
    }
