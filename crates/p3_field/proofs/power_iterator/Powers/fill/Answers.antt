use Rattle.p3_field.proofs.Lemmas.{rules, arith, length, lt_of_lt_of_le, next_written, first_power, next_power}
use borrow.Author.Rules.{scaled_Fits}
use Rattle.p3_field.proofs.power_iterator.Powers.fill.Goals as goal

pub loop-i-init : goal.loop-i-init
loop-i-init g c = record {
  next = first_power g.F.Valued.ring _ _;
  filled = λ j below. absurd (omega (arith, below));
}

pub loop-i-preserved : goal.loop-i-preserved
loop-i-preserved g c = record {
  next = next_power g.F.Valued.ring _ _ _ _ c.loop-i.i c.loop-i.invariant.next (g.met.F.Field.mul_law _ _ _ c.mul-current.ensures);
  filled =
      next_written g.F.Valued.value g.F.Valued.zero _ c.loop-i.to c.loop-i.i c.loop-i.current (search rules)
      c.loop-i.invariant.filled c.loop-i.invariant.next;
}

pub offset_bounds-to-i : goal.offset_bounds-to-i
offset_bounds-to-i g c = scaled_Fits _ (length c.args.to.now) _ c.loop-i-test.true (search rules)

pub returns : goal.returns
returns g c = record { long = c.loop-i.auto.to; powers = λ i below. c.loop-i.invariant.filled i (lt_of_lt_of_le below c.loop-i-test.false) }
