use Rattle.std.proofs.Common.{ap, ◌∙◌}
use Rattle.p3_field.proofs.Accumulated.{added_up}
use Rattle.examples.specs.Quadratics.{quadratic}
use Rattle.examples.specs.QuadraticFields.{both}
use Rattle.examples.proofs.quadratic.QuadraticSum.sum.Goals as goal

pub returns : goal.returns
returns g c =
    let f = g.R.Valued in
    let law = g.met.R.Field in
    let (xs, drained, steps) = c.add_all.ensures in
    record {
      ran = (
        xs,
        (λ _. drained),
        added_up (quadratic f.ring (f.value g.W.Square.w)) (λ x. (f.value x.constant, f.value x.linear)) _
            (λ a x b is. both (law.add_law _ _ _ is.0) (law.add_law _ _ _ is.1)) _ (both
            (ap f.value (c.new.ensures.constant ∙ c.ZERO.ensures) ∙ law.zero_law)
            (ap f.value (c.new.ensures.linear ∙ c.ZERO-2.ensures) ∙ law.zero_law)) xs _ steps,
      );
    }
