use Rattle.p3_networks.proofs.Lemmas.{◌≡◌, length, ap, sym, ◌∙◌, arith, value_at}
use Rattle.p3_networks.proofs.tiles.join_scaled.Goals as goal

pub returns-clause-near : goal.returns-clause-near
returns-clause-near g c j inside =
    let field = g.F.Valued in
    let times = λ (x : field.Element). field.ring.mul x (field.value c.args.scale) in
    let sums = c.meet_rows.new.row_1 in
    let len : length sums ≡ length c.args.low.now = c.meet_rows.auto.row_1 in
    value_at field.value times sums c.scale_slice_in_place.new.values j field.zero c.scale_slice_in_place.ensures.values
    c.scale_slice_in_place.auto.values (omega (arith, inside, len))
    ∙ ap times (c.meet_rows.ensures.near j inside)

pub returns-clause-far : goal.returns-clause-far
returns-clause-far g c j inside =
    let ring = g.F.Valued.ring in
    c.meet_rows.ensures.far j inside ∙ ap (ring.mul _) (g.met.F.Field.mul_law _ _ _ c.mul.ensures) ∙ sym (ring.mul_assoc _ _ _)
