use Rattle.p3_networks.proofs.Lemmas.{◌≡◌, ◌+◌, ◌*◌, ◌-◌, ◌/◌, ◌≤◌, ◌<◌, ◌++◌, take, drop, length, sym, ap, ap₂, ◌∙◌, arith, rules, subst, length-map}
use Rattle.p3_networks.proofs.Lemmas.{add-sub_cancel_left, le-add_right, rows-more, part_at, value_at, lane_at, turn_counted, at_end, block_room, part_length}
use Rattle.p3_networks.proofs.Lemmas.{factor-more, restored, same_entries, scaled_by_packs, whole_packs}
use borrow.Author.Rules.{scaled_fits≤}
use Rattle.p3_networks.proofs.shifts.scale_packs.Goals as goal

pub offset_bounds-values-start : goal.offset_bounds-values-start
offset_bounds-values-start g c =
    let w = c.WIDTH-width.result in
    let len = length c.args.values.now in
    let all = whole_packs len c.requires.whole.0 _ w c.requires.width c.WIDTH-width.ensures c.requires.whole.1 in
    let room = block_room c.loop-i.i (len / w) w len c.loop-i-test.true all in
    let below : c.loop-i.i * w ≤ len = omega (arith, room) in
    scaled_fits≤ _ _ _ below (search rules)

-- One pack more is multiplied, lane by lane, by the factors of its places. The factors then go on by as many places as a pack has.
pub loop-i-preserved : goal.loop-i-preserved
loop-i-preserved g c =
    let field = g.F.Valued in
    let ring = field.ring in
    let lanes = g.P.PackedField.lanes in
    let l = c.loop-i in
    let i = l.i in
    let w = c.WIDTH-width.result in
    let xs = c.args.values.now in
    let front = c.first_factors-factors.new.part in
    let first = field.value c.args.first in
    let base = field.value c.args.base in
    let all = whole_packs (length xs) c.requires.whole.0 _ w c.requires.width c.WIDTH-width.ensures c.requires.whole.1 in
    let same = restored field.value w xs front c.first_factors-factors.ensures.part in
    let start = front ++ drop w xs in
    let size : length l.values ≡ length xs = l.auto.values ∙ sym (length-map start field.value) ∙ ap length same ∙ length-map xs field.value in
    let m = add-sub_cancel_left (i * w) w in
    let room = block_room i (length xs / w) w (length l.values) c.loop-i-test.true (size ∙ all) in
    let part = take ((i * w + w) - i * w) (drop (i * w) l.values) in
    let old_len = part_length l.values (i * w) w room in
    let wide : length (lanes l.factors) ≡ w = g.met.P.PackedField.width_law l.factors ∙ sym c.WIDTH-width.ensures in
    let len : length c.scale_pack.new.part ≡ w = c.scale_pack.auto.part ∙ old_len in
    record {
      factors = λ k inside.
          value_at field.value (λ x. ring.mul x (field.value c.exp_u64-step.result)) (lanes l.factors)
          (lanes c.scaled-factors.result) k field.zero c.scaled-factors.ensures.lanes
          (g.met.P.PackedField.width_law c.scaled-factors.result ∙ sym (g.met.P.PackedField.width_law l.factors)) (subst (λ n. k < n) (sym wide) inside)
          ∙ ap₂ ring.mul (l.invariant.factors k inside) c.exp_u64-step.ensures
          ∙ factor-more ring first base i w k;
      values = rows-more field.zero w _ start l.values c.scale_pack.new.part i _ m room len
          (λ k inside.
          let entry =
          ap field.value (part_at l.values (i * w) ((i * w + w) - i * w) k field.zero (subst (λ n. k < n) (sym m) inside)
          ∙ l.invariant.values.rest (i * w + k) (le-add_right (i * w) k)) in
          lane_at ring.mul field.value field.zero c.scale_pack.new.part part (lanes l.factors) k (old_len ∙ sym wide)
          (subst (λ n. k < n) (sym old_len) inside) c.scale_pack.ensures.part
          ∙ ap₂ ring.mul (entry ∙ same_entries field.value xs start (i * w + k) field.zero same
          (omega (arith, inside, room, size))) (l.invariant.factors k inside))
          l.invariant.values;
      count =
          turn_counted i w _ c.args.products.now l.products c.scale_pack.new.products (sym c.WIDTH-width.ensures)
          l.invariant.count c.scale_pack.ensures.count;
    }

pub returns-clause-values : goal.returns-clause-values
returns-clause-values g c =
    let field = g.F.Valued in
    let w = c.WIDTH-width.result in
    let xs = c.args.values.now in
    let some : 1 ≤ w = subst (λ n. 1 ≤ n) (sym c.WIDTH-width.ensures) c.requires.width in
    let all = whole_packs (length xs) c.requires.whole.0 _ w c.requires.width c.WIDTH-width.ensures c.requires.whole.1 in
    scaled_by_packs field.ring field.value field.zero (field.value c.args.first) (field.value c.args.base) w (length xs / w) xs c.loop-i.values some all
    (λ p k below inside. c.loop-i.invariant.values.done p k (omega (arith, below, c.loop-i-test.false)) inside)

pub returns-clause-count : goal.returns-clause-count
returns-clause-count g c =
    let w = c.WIDTH-width.result in
    let len = length c.args.values.now in
    let all = whole_packs len c.requires.whole.0 _ w c.requires.width c.WIDTH-width.ensures c.requires.whole.1 in
    at_end (λ n. c.loop-i.products ≡ c.args.products.now + n * w) c.loop-i.i (len / w) c.loop-i.auto.i-end
    c.loop-i-test.false c.loop-i.invariant.count
    ∙ ap (λ n. c.args.products.now + n) (sym all)
