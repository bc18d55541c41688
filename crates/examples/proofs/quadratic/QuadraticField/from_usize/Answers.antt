use Rattle.std.proofs.Common.{ap, ◌∙◌}
use Rattle.examples.specs.QuadraticFields.{both}
use Rattle.examples.proofs.Quadratics.{embedded-count}
use Rattle.examples.proofs.quadratic.QuadraticField.from_usize.Goals as goal

pub returns : goal.returns
returns g c =
    let f = g.R.Valued in
    both (ap f.value c.new.ensures.constant ∙ c.from_usize.ensures) (ap f.value (c.new.ensures.linear ∙ c.ZERO.ensures) ∙ g.met.R.Field.zero_law)
    ∙ embedded-count f.ring (f.value g.W.Square.w) c.args.n
