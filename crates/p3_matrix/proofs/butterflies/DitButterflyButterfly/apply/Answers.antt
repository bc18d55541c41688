use Rattle.p3_matrix.proofs.Lemmas.{map, ap, ◌∙◌, minus, by_lanes, by_lanes-map_right}
use Rattle.p3_matrix.proofs.butterflies.DitButterflyButterfly.apply.Goals as goal

pub returns-clause-near : goal.returns-clause-near
returns-clause-near g c =
    let f = g.F.Valued in
    let xs = map f.value (g.P.PackedField.lanes c.args.x_1) in
    let ys = map f.value (g.P.PackedField.lanes c.args.x_2) in
    c.add.ensures ∙ ap (by_lanes f.ring.add xs) c.scaled-turned.ensures.lanes
    ∙ by_lanes-map_right f.ring.add (λ y. f.ring.mul y (f.value c.args.self.now.0)) xs ys

pub returns-clause-far : goal.returns-clause-far
returns-clause-far g c =
    let f = g.F.Valued in
    let xs = map f.value (g.P.PackedField.lanes c.args.x_1) in
    let ys = map f.value (g.P.PackedField.lanes c.args.x_2) in
    c.sub.ensures ∙ ap (by_lanes (minus f.ring) xs) c.scaled-turned.ensures.lanes
    ∙ by_lanes-map_right (minus f.ring) (λ y. f.ring.mul y (f.value c.args.self.now.0)) xs ys
