use Rattle.p3_networks.proofs.Lemmas.{◌≡◌, ◌*◌, length, get_or, map, refl, sym, ap, ◌∙◌, arith, Fits-le, le-add_right, le_of_eq, le_trans, add-sub_cancel_left}
use Rattle.p3_networks.proofs.Lemmas.{length-map, power, power-zero, power-more, turn_counted, block_room, rows-none, rows-more, value_at}
use borrow.Author.Rules.{scaled_fits≤}
use Rattle.p3_networks.proofs.tiles.multiples_one_by_one.Goals as goal

pub overflow_mul-start : goal.overflow_mul-start
overflow_mul-start g c =
    Fits-le (le_trans (le-add_right _ _) (block_room c.loop-t.t c.args.count (length c.args.row.now)
    (length c.args.values.now) c.loop-t-test.true c.requires)) search

pub overflow_add-multiple : goal.overflow_add-multiple
overflow_add-multiple g c = Fits-le (block_room c.loop-t.t c.args.count (length c.args.row.now) (length c.args.values.now) c.loop-t-test.true c.requires) search

pub offset_bounds-values-start : goal.offset_bounds-values-start
offset_bounds-values-start g c =
    scaled_fits≤ _ _ _ (le_trans (le-add_right _ _) (block_room c.loop-t.t c.args.count (length c.args.row.now)
    (length c.args.values.now) c.loop-t-test.true c.requires)) search

pub slice_bounds-multiple-end : goal.slice_bounds-multiple-end
slice_bounds-multiple-end g c =
    le_trans (block_room c.loop-t.t c.args.count (length c.args.row.now) (length c.args.values.now) c.loop-t-test.true
    c.requires) (le_of_eq (sym c.loop-t.auto.values))

pub loop-t-init : goal.loop-t-init
loop-t-init g c =
    let field = g.F.Valued in
    record {
      factor =
          sym (ap (field.ring.mul (field.value c.args.first)) (power-zero field.ring (field.value c.args.step))
          ∙ field.ring.mul_one (field.value c.args.first));
      values = rows-none field.zero _ _ _;
      count = omega arith;
    }

pub loop-t-preserved : goal.loop-t-preserved
loop-t-preserved g c =
    let field = g.F.Valued in
    let t = c.loop-t.t in
    let w = length c.args.row.now in
    let m = add-sub_cancel_left (t * w) w in
    let room = block_room t c.args.count w (length c.loop-t.values) c.loop-t-test.true (c.loop-t.auto.values ∙ c.requires) in
    let value = field.value in
    let times = λ (x : field.Element). field.ring.mul x (value c.loop-t.factor) in
    let row = c.args.row.now in
    let multiple = c.scale_slice_oop.new.to in
    let len : length multiple ≡ w =
    sym (length-map multiple value) ∙ ap length c.scale_slice_oop.ensures.values ∙ length-map (map value row) times
    ∙ length-map row value in
    record {
      factor = g.met.F.Field.mul_law _ _ _ c.mul-factor.ensures ∙ ap (λ x. field.ring.mul x (field.value c.args.step)) c.loop-t.invariant.factor
          ∙ field.ring.mul_assoc (field.value c.args.first) (power field.ring (field.value c.args.step) t) (field.value c.args.step)
          ∙ ap (field.ring.mul (field.value c.args.first)) (sym (power-more field.ring (field.value c.args.step) t));
      values = rows-more field.zero w _ c.args.values.now c.loop-t.values multiple t _ m room len
          (λ k inside.
          value_at value times row multiple k field.zero c.scale_slice_oop.ensures.values len inside
          ∙ ap (field.ring.mul (value (get_or row k field.zero))) c.loop-t.invariant.factor)
          c.loop-t.invariant.values;
      count = turn_counted t w _ c.args.products.now c.loop-t.products _ refl c.loop-t.invariant.count c.scale_slice_oop.ensures.count;
    }

pub returns-clause-values : goal.returns-clause-values
returns-clause-values g c t j below inside = c.loop-t.invariant.values.done t j (omega arith) inside
