use Rattle.std.proofs.Common.{map, ap, ap₂, ◌∙◌}
use Rattle.p3_field.specs.Lanes.{by_lanes}
use Rattle.p3_matrix.proofs.Lanes.{by_lanes-map_right}
use Rattle.p3_interpolation.proofs.rows.add_scaled_pack.Goals as goal

pub returns-clause-sums : goal.returns-clause-sums
returns-clause-sums g c =
    let f = g.F.Valued in
    let times = λ (x : f.Element). f.ring.mul x (f.value c.args.factor) in
    c.store.ensures ∙ c.add.ensures
    ∙ ap₂ (by_lanes f.ring.add) c.load-2.ensures (c.scaled-multiples.ensures.lanes ∙ ap (map times) c.load.ensures)
    ∙ by_lanes-map_right f.ring.add times (map f.value c.args.sums.now) (map f.value c.args.row.now)
