use Rattle.p3_networks.proofs.Lemmas.{◌≡◌, ◌+◌, ◌*◌, ◌-◌, ◌≤◌, length, get_or, take, drop, sym, ap, ap₂, ◌∙◌, arith, rules, ◌<◌, subst, add-sub_cancel_left}
use Rattle.p3_networks.proofs.Lemmas.{power-zero, power-more, turn_counted, block_room, part_length, rows-none, rows-more, part_at, value_at}
use borrow.Author.Rules.{scaled_fits≤}
use Rattle.p3_networks.proofs.shifts.copy_shifted.Goals as goal

pub overflow_mul-start : goal.overflow_mul-start
overflow_mul-start g c = omega (arith, block_room c.loop-i.i c.args.height c.args.width (length c.args.values.now) c.loop-i-test.true c.requires.size)

pub overflow_add-row : goal.overflow_add-row
overflow_add-row g c = omega (arith, block_room c.loop-i.i c.args.height c.args.width (length c.args.values.now) c.loop-i-test.true c.requires.size)

pub offset_bounds-values-start : goal.offset_bounds-values-start
offset_bounds-values-start g c =
    let room = block_room c.loop-i.i c.args.height c.args.width (length c.args.values.now) c.loop-i-test.true c.requires.size in
    let below : c.loop-i.i * c.args.width ≤ length c.args.values.now = omega (arith, room) in
    scaled_fits≤ _ _ _ below (search rules)

pub slice_bounds-row-end : goal.slice_bounds-row-end
slice_bounds-row-end g c =
    omega (
      arith,
      block_room c.loop-i.i c.args.height c.args.width (length c.args.values.now) c.loop-i-test.true c.requires.size,
      c.loop-i.auto.values,
    )

pub overflow_add-start : goal.overflow_add-start
overflow_add-start g c = omega (arith, block_room c.loop-i.i c.args.height c.args.width (length c.args.rows.now) c.loop-i-test.true c.requires.source)

pub offset_bounds-rows-start : goal.offset_bounds-rows-start
offset_bounds-rows-start g c =
    let room = block_room c.loop-i.i c.args.height c.args.width (length c.args.rows.now) c.loop-i-test.true c.requires.source in
    let below : c.loop-i.i * c.args.width ≤ length c.args.rows.now = omega (arith, room) in
    search rules

pub slice_bounds-copy_from_slice-end : goal.slice_bounds-copy_from_slice-end
slice_bounds-copy_from_slice-end g c = block_room c.loop-i.i c.args.height c.args.width (length c.args.rows.now) c.loop-i-test.true c.requires.source

pub loop-i-init : goal.loop-i-init
loop-i-init g c =
    let field = g.F.Valued in
    record {
      factor = ap field.value c.ONE-factor.ensures ∙ g.met.F.Field.one_law ∙ sym (power-zero field.ring (field.value c.args.shift));
      values = rows-none field.zero _ _ _;
      count = omega arith;
    }

pub loop-i-preserved : goal.loop-i-preserved
loop-i-preserved g c =
    let field = g.F.Valued in
    let i = c.loop-i.i in
    let w = c.args.width in
    let m = add-sub_cancel_left (i * w) w in
    let room = block_room i c.args.height w (length c.loop-i.values) c.loop-i-test.true (c.loop-i.auto.values ∙ c.requires.size) in
    let source = block_room i c.args.height w (length c.args.rows.now) c.loop-i-test.true c.requires.source in
    let part = take ((i * w + w) - i * w) (drop (i * w) c.args.rows.now) in
    let copied : c.copy_from_slice-in-loop-i.new.self ≡ part = c.copy_from_slice-in-loop-i.ensures.after in
    let part_len : length part ≡ w = part_length c.args.rows.now (i * w) w source in
    let len : length c.scale_slice_in_place.new.values ≡ w = c.scale_slice_in_place.auto.values ∙ ap length copied ∙ part_len in
    record {
      factor = g.met.F.Field.mul_law _ _ _ c.mul-factor.ensures ∙ ap (λ x. field.ring.mul x (field.value c.args.shift)) c.loop-i.invariant.factor
          ∙ sym (power-more field.ring (field.value c.args.shift) i);
      values = rows-more field.zero w _ _ c.loop-i.values c.scale_slice_in_place.new.values i _ m room len
          (λ k inside.
          value_at field.value (λ x. field.ring.mul x (field.value c.loop-i.factor))
          c.copy_from_slice-in-loop-i.new.self c.scale_slice_in_place.new.values k field.zero
          c.scale_slice_in_place.ensures.values c.scale_slice_in_place.auto.values
          (subst (λ n. k < n) (sym (ap length copied ∙ part_len)) inside)
          ∙ ap₂ field.ring.mul (ap (λ xs. field.value (get_or xs k field.zero)) copied ∙ ap field.value
          (part_at c.args.rows.now (i * w) ((i * w + w) - i * w) k field.zero (subst (λ n. k < n) (sym m) inside)))
          c.loop-i.invariant.factor)
          c.loop-i.invariant.values;
      count =
          turn_counted i w (length c.copy_from_slice-in-loop-i.new.self) c.args.products.now c.loop-i.products
          c.scale_slice_in_place.new.products (ap length copied ∙ part_len) c.loop-i.invariant.count
          c.scale_slice_in_place.ensures.count;
    }

pub returns-clause-values : goal.returns-clause-values
returns-clause-values g c = λ i j below inside. c.loop-i.invariant.values.done i j (omega arith) inside
