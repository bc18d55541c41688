use Rattle.p3_matrix.proofs.Lemmas.{map, ◌∙◌, minus, map-by_lanes}
use Rattle.p3_matrix.proofs.butterflies.DifButterflyButterfly.apply.Goals as goal

pub returns-clause-far : goal.returns-clause-far
returns-clause-far g c =
    let f = g.F.Valued in
    let xs = map f.value (g.P.PackedField.lanes c.args.x_1) in
    let ys = map f.value (g.P.PackedField.lanes c.args.x_2) in
    let times = λ (y : f.Element). f.ring.mul y (f.value c.args.self.now.0) in
    c.sub_scaled.ensures.lanes ∙ map-by_lanes (minus f.ring) times xs ys
