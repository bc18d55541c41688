use Rattle.std.proofs.Common.{◌≡◌, ◌↔◌, ap, ap₂, subst, sym, ◌∙◌}
use Rattle.p3_field.specs.Ring.{IsInvertible, minus}
use Rattle.examples.proofs.Quadratics.{unit_by_norm}
use Rattle.examples.specs.Quadratics.{norm, quadratic}
use Rattle.examples.proofs.quadratic.Quadratic.norm.Goals as goal

pub returns-clause-unit : goal.returns-clause-unit
returns-clause-unit g c =
    let f = g.R.Valued in
    let law = g.met.R.Field in
    let w = f.value g.W.Square.w in
    let x : f.Element × f.Element = (f.value c.args.self.now.constant, f.value c.args.self.now.linear) in
    let same : f.value c.sub.result ≡ norm f.ring w x =
    law.sub_law _ _ _ c.sub.ensures
    ∙ ap₂ (minus f.ring) (law.mul_law _ _ _ c.mul.ensures)
    (c.times.ensures ∙ ap (f.ring.mul w) (law.mul_law _ _ _ c.mul-2.ensures)) in
    subst (λ n. IsInvertible f.ring n ↔ IsInvertible (quadratic f.ring w) x) (sym same) (unit_by_norm f.ring w x)
