use Rattle.p3_networks.proofs.Lemmas.{◌≡◌, ℕ, ◌+◌, ◌-◌, ◌*◌, length, ap, ◌∙◌, subst, arith, HoldsCells, value_at}
use Rattle.p3_networks.proofs.tiles.layers_then_scale.Goals as goal

pub returns-clause-cells : goal.returns-clause-cells
returns-clause-cells g c k cells layers room holds i inside =
    let field = g.F.Valued in
    let times = λ (x : field.Element). field.ring.mul x (field.value c.args.scale) in
    let middle = c.layers_of_tile.new.values in
    let first = c.args.number * length c.args.values.now in
    let len : length c.scale_slice_in_place.new.values ≡ length middle = c.scale_slice_in_place.auto.values in
    let plain : 0 + (c.args.top - 0) ≡ c.args.top = omega arith in
    let held =
    subst (λ (e : ℕ). HoldsCells field.value field.zero first (cells e) middle) plain
    (c.layers_of_tile.ensures.cells.taken k cells layers room holds) in
    value_at field.value times middle c.scale_slice_in_place.new.values i field.zero c.scale_slice_in_place.ensures.values len (omega (arith, inside, len))
    ∙ ap times (held i (omega (arith, inside, len)))

pub returns-clause-cost : goal.returns-clause-cost
returns-clause-cost g c =
    let before = c.args.values.now in
    let len : length c.layers_of_tile.new.values ≡ length before = c.layers_of_tile.auto.values in
    let more : (c.args.top + 2) * length before ≡ c.args.top * length before + 2 * length before = omega arith in
    record {
      grows = omega (arith, c.layers_of_tile.ensures.cost.grows, c.scale_slice_in_place.ensures.count);
      cost = omega (arith, c.layers_of_tile.ensures.cost.cost, c.scale_slice_in_place.ensures.count, len, more);
    }
