use Rattle.p3_networks.proofs.Lemmas.{◌≡◌, ◌+◌, ◌*◌, ◌-◌, ◌<◌, length, sym, ap, ap₂, ◌∙◌, arith, subst, add-sub_cancel_left, le-add_right, power, power-zero}
use Rattle.p3_networks.proofs.Lemmas.{power-more, rows-none, rows-more, part_at, turn_counted, block_room, part_length, power_of_column}
use Rattle.p3_networks.proofs.shifts.shift_columns.Goals as goal

pub loop-i-init : goal.loop-i-init
loop-i-init g c =
    let field = g.F.Valued in
    record {
      first = ap field.value c.ONE-first.ensures ∙ g.met.F.Field.one_law ∙ sym (power-zero field.ring (field.value c.args.shift));
      base = ap field.value c.ONE-base.ensures ∙ g.met.F.Field.one_law ∙ sym (power-zero field.ring (field.value c.args.step));
      values = rows-none field.zero _ _ _;
      count = omega arith;
    }

-- One row more is multiplied: its entries by the powers of shift and step that the invariant names for it. Both factors then go on by one power.
pub loop-i-preserved : goal.loop-i-preserved
loop-i-preserved g c =
    let field = g.F.Valued in
    let ring = field.ring in
    let l = c.loop-i in
    let i = l.i in
    let w = c.args.width in
    let m = add-sub_cancel_left (i * w) w in
    let room = block_room i c.args.height w (length l.values) c.loop-i-test.true (l.auto.values ∙ c.requires) in
    let old_len = part_length l.values (i * w) w room in
    let len : length c.scale_by_powers.new.values ≡ w = c.scale_by_powers.auto.values ∙ old_len in
    record {
      first =
          g.met.F.Field.mul_law _ _ _ c.mul-first.ensures
          ∙ ap (λ x. ring.mul x (field.value c.args.shift)) l.invariant.first
          ∙ sym (power-more ring (field.value c.args.shift) i);
      base =
          g.met.F.Field.mul_law _ _ _ c.mul-base.ensures
          ∙ ap (λ x. ring.mul x (field.value c.args.step)) l.invariant.base
          ∙ sym (power-more ring (field.value c.args.step) i);
      values = rows-more field.zero w _ _ l.values c.scale_by_powers.new.values i _ m room len
          (λ k inside.
          let entry =
          ap field.value (part_at l.values (i * w) ((i * w + w) - i * w) k field.zero (subst (λ n. k < n) (sym m) inside)
          ∙ l.invariant.values.rest (i * w + k) (le-add_right (i * w) k)) in
          c.scale_by_powers.ensures.values k (subst (λ n. k < n) (sym old_len) inside)
          ∙ ap₂ ring.mul entry (ap₂ (λ a b. ring.mul a (power ring b k)) l.invariant.first l.invariant.base ∙
          power_of_column ring (field.value c.args.shift) (field.value c.args.step) i k))
          l.invariant.values;
      count = turn_counted i w _ c.args.products.now l.products c.scale_by_powers.new.products old_len l.invariant.count c.scale_by_powers.ensures.count;
    }
