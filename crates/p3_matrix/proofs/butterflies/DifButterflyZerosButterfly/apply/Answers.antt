use Rattle.p3_matrix.proofs.Lemmas.{map, sym, ◌∙◌, by_lanes_of_left, by_lanes_is_left, equal_lanes}
use Rattle.p3_matrix.proofs.butterflies.DifButterflyZerosButterfly.apply.Goals as goal

pub returns-clause-near : goal.returns-clause-near
returns-clause-near g c =
    let value = g.F.Valued.value in
    let p = g.P.PackedField in
    let wide = g.met.P.PackedField.width_law in
    sym (by_lanes_is_left (map value (p.lanes c.args.x_1)) (map value (p.lanes c.args._x_2))
    (equal_lanes value (p.lanes c.args.x_1) (p.lanes c.args._x_2) p.WIDTH (wide c.args.x_1) (wide c.args._x_2)))

pub returns-clause-far : goal.returns-clause-far
returns-clause-far g c =
    let f = g.F.Valued in
    let p = g.P.PackedField in
    let wide = g.met.P.PackedField.width_law in
    c.scaled.ensures.lanes
    ∙ sym (by_lanes_of_left (λ x. f.ring.mul x (f.value c.args.self.now.0)) (map f.value (p.lanes c.args.x_1)) (map f.value (p.lanes c.args._x_2))
    (equal_lanes f.value (p.lanes c.args.x_1) (p.lanes c.args._x_2) p.WIDTH (wide c.args.x_1) (wide c.args._x_2)))
