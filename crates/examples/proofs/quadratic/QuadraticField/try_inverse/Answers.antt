use Rattle.std.proofs.Common.{ap, sym, ◌∙◌}
use Rattle.examples.specs.Quadratics.{quadratic}
use Rattle.examples.specs.QuadraticFields.{both}
use Rattle.examples.proofs.Quadratics.{inverse_by_norm}
use Rattle.examples.proofs.quadratic.QuadraticField.try_inverse.Goals as goal

pub returns-clause-some : goal.returns-clause-some
returns-clause-some g c =
    let f = g.R.Valued in
    let law = g.met.R.Field in
    let w = f.value g.W.Square.w in
    let a = f.value c.args.self.now.constant in
    let b = f.value c.args.self.now.linear in
    let n = f.value c.in_ok-inverse.inverse in
    ap ((quadratic f.ring w).mul (a, b))
    (both (ap f.value c.new.ensures.constant ∙ law.mul_law _ _ _ c.mul.ensures) (ap f.value c.new.ensures.linear
    ∙ law.neg_law _ _ c.neg.ensures ∙ ap f.ring.neg (law.mul_law _ _ _ c.mul-2.ensures)))
    ∙ inverse_by_norm f.ring w a b n (ap (λ x. f.ring.mul x n) (sym c.norm.ensures.norm) ∙ c.in_ok-inverse.ensures.some)

pub returns-clause-found : goal.returns-clause-found
returns-clause-found g c = ((g.R.Valued.value c.new.result.constant, g.R.Valued.value c.new.result.linear), returns-clause-some g c)
