use Rattle.p3_field.proofs.Lemmas.{arith, ◌∙◌, lt_of_lt_of_le, ap, sym, ◌+◌, subst, ◌≤◌, le_antisymm, first_power, next_power, next_pushed}
use Rattle.p3_field.proofs.power_iterator.Powers.collect_n.Goals as goal

pub loop-i-init : goal.loop-i-init
loop-i-init g c = record {
  long = c.in_ok-powers.ensures.len;
  room = c.in_ok-powers.ensures.capacity;
  next = first_power g.F.Valued.ring _ _;
  filled = λ j below. absurd (omega (arith, below));
}

pub loop-i-preserved : goal.loop-i-preserved
loop-i-preserved g c = record {
  long = c.push_reserved.ensures.len ∙ ap (λ k. k + 1) c.loop-i.invariant.long;
  room = subst (λ k. c.args.n ≤ k) (sym c.push_reserved.ensures.capacity) c.loop-i.invariant.room;
  next = next_power g.F.Valued.ring _ _ _ _ c.loop-i._i c.loop-i.invariant.next (g.met.F.Field.mul_law _ _ _ c.mul-current.ensures);
  filled =
      next_pushed g.F.Valued.value g.F.Valued.zero _ c.loop-i.powers.items _ c.loop-i._i c.loop-i.current
      c.push_reserved.ensures.items (sym c.loop-i.powers.ok.0 ∙ c.loop-i.invariant.long) c.loop-i.invariant.filled
      c.loop-i.invariant.next;
}

pub returns : goal.returns
returns g c = record {
  long = c.loop-i.invariant.long ∙ le_antisymm c.loop-i.auto._i-end c.loop-i-test.false;
  powers = λ i below. c.loop-i.invariant.filled i (lt_of_lt_of_le below c.loop-i-test.false);
  room = tt;
}
