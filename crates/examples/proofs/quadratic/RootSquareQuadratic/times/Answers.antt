use Rattle.std.proofs.Common.{ap, sym, ◌∙◌}
use Rattle.examples.specs.QuadraticFields.{both}
use Rattle.examples.proofs.Quadratics.{root-mul}
use Rattle.examples.proofs.quadratic.RootSquareQuadratic.times.Goals as goal

pub returns : goal.returns
returns g c =
    let f = g.R.Valued in
    let law = g.met.R.Field in
    both (ap f.value c.new.ensures.constant ∙ c.times.ensures) (ap f.value c.new.ensures.linear)
    ∙ sym (root-mul f.ring (f.value g.W.Square.w) (f.value g.R.Field.ZERO) (f.value g.R.Field.ONE)
    (f.value c.args.x.constant) (f.value c.args.x.linear) law.zero_law law.one_law)
