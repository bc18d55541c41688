use Rattle.std.proofs.Common.{ap, ◌∙◌}
use Rattle.p3_field.proofs.Accumulated.{multiplied}
use Rattle.examples.specs.Quadratics.{quadratic}
use Rattle.examples.specs.QuadraticFields.{both}
use Rattle.examples.proofs.quadratic.QuadraticProduct.product.Goals as goal

pub returns : goal.returns
returns g c =
    let f = g.R.Valued in
    let law = g.met.R.Field in
    let (xs, drained, steps) = c.multiply_all.ensures in
    record {
      ran = (
        xs,
        (λ _. drained),
        multiplied (quadratic f.ring (f.value g.W.Square.w)) (λ x. (f.value x.constant, f.value x.linear)) _
            (λ a x b is. is) _ (both (ap f.value (c.new.ensures.constant ∙ c.ONE.ensures) ∙ law.one_law)
            (ap f.value (c.new.ensures.linear ∙ c.ZERO.ensures) ∙ law.zero_law)) xs _ steps,
      );
    }
