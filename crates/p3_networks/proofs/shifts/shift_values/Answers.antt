use Rattle.p3_networks.proofs.Lemmas.{◌≡◌, ◌+◌, ◌*◌, ◌-◌, ◌≤◌, take, drop, length, get_or, sym, ap, ap₂, ◌∙◌, arith, rules, ◌<◌, subst, add-sub_cancel_left}
use Rattle.p3_networks.proofs.Lemmas.{le-add_right, le_of_eq, power, power-zero, power-more, power_of_one, turn_counted, at_end, block_room, part_length}
use Rattle.p3_networks.proofs.Lemmas.{rows-none, rows-more, part_at, value_at}
use borrow.Author.Rules.{scaled_fits≤}
use Rattle.p3_networks.proofs.shifts.shift_values.Goals as goal

pub overflow_mul-start : goal.overflow_mul-start
overflow_mul-start g c = omega (arith, block_room c.loop-i.i c.args.height c.args.width (length c.args.values.now) c.loop-i-test.true c.requires)

pub overflow_add-start : goal.overflow_add-start
overflow_add-start g c = omega (arith, block_room c.loop-i.i c.args.height c.args.width (length c.args.values.now) c.loop-i-test.true c.requires)

pub offset_bounds-values-start : goal.offset_bounds-values-start
offset_bounds-values-start g c =
    let room = block_room c.loop-i.i c.args.height c.args.width (length c.args.values.now) c.loop-i-test.true c.requires in
    let below : c.loop-i.i * c.args.width ≤ length c.args.values.now = omega (arith, room) in
    scaled_fits≤ _ _ _ below (search rules)

pub slice_bounds-scale_slice_in_place-end : goal.slice_bounds-scale_slice_in_place-end
slice_bounds-scale_slice_in_place-end g c =
    omega (
      arith,
      block_room c.loop-i.i c.args.height c.args.width (length c.args.values.now) c.loop-i-test.true c.requires,
      c.loop-i.auto.values,
    )

pub loop-i-init : goal.loop-i-init
loop-i-init g c =
    let field = g.F.Valued in
    record {
      factor = ap field.value c.ONE-power.ensures ∙ g.met.F.Field.one_law ∙ sym (power-zero field.ring (field.value c.args.shift));
      values = rows-none field.zero _ _ _;
      count = omega arith;
    }

pub loop-i-preserved : goal.loop-i-preserved
loop-i-preserved g c =
    let field = g.F.Valued in
    let i = c.loop-i.i in
    let w = c.args.width in
    let m = add-sub_cancel_left (i * w) w in
    let room = block_room i c.args.height w (length c.loop-i.values) c.loop-i-test.true (c.loop-i.auto.values ∙ c.requires) in
    let old_len = part_length c.loop-i.values (i * w) w room in
    let len : length c.scale_slice_in_place.new.values ≡ w = c.scale_slice_in_place.auto.values ∙ old_len in
    record {
      factor = g.met.F.Field.mul_law _ _ _ c.mul-power.ensures ∙ ap (λ x. field.ring.mul x (field.value c.args.shift)) c.loop-i.invariant.factor
          ∙ sym (power-more field.ring (field.value c.args.shift) i);
      values = rows-more field.zero w _ _ c.loop-i.values c.scale_slice_in_place.new.values i _ m room len
          (λ k inside.
          let entry =
          ap field.value (part_at c.loop-i.values (i * w) ((i * w + w) - i * w) k field.zero (subst (λ n. k < n) (sym m) inside)
          ∙ c.loop-i.invariant.values.rest (i * w + k) (le-add_right (i * w) k)) in
          value_at field.value (λ x. field.ring.mul x (field.value c.loop-i.power))
          (take ((i * w + w) - i * w) (drop (i * w) c.loop-i.values)) c.scale_slice_in_place.new.values k field.zero
          c.scale_slice_in_place.ensures.values c.scale_slice_in_place.auto.values
          (subst (λ n. k < n) (sym old_len) inside) ∙ ap₂ field.ring.mul entry c.loop-i.invariant.factor)
          c.loop-i.invariant.values;
      count =
          turn_counted i w _ c.args.products.now c.loop-i.products c.scale_slice_in_place.new.products old_len
          c.loop-i.invariant.count c.scale_slice_in_place.ensures.count;
    }

pub returns-clause-values : goal.returns-clause-values
returns-clause-values g c = λ i j below inside. c.loop-i.invariant.values.done i j (omega arith) inside

pub returns-then-eq-clause-values : goal.returns-then-eq-clause-values
returns-then-eq-clause-values g c = λ i j below inside.
    let field = g.F.Valued in
    let one : field.value c.args.shift ≡ field.ring.one =
    (g.met.F.Field.eq_law c.args.shift c.ONE.result).0 (search rules) ∙ ap field.value c.ONE.ensures
    ∙ g.met.F.Field.one_law in
    let x = field.value (get_or c.args.values.now (i * c.args.width + j) field.zero) in
    sym (ap (λ s. field.ring.mul x (power field.ring s i)) one ∙ ap (field.ring.mul x) (power_of_one field.ring i) ∙ field.ring.mul_one x)

pub returns-clause-cost : goal.returns-clause-cost
returns-clause-cost g c =
    le_of_eq (at_end (λ n. c.loop-i.products ≡ c.args.products.now + n * c.args.width) c.loop-i.i c.args.height
    c.loop-i.auto.i-end c.loop-i-test.false c.loop-i.invariant.count)
