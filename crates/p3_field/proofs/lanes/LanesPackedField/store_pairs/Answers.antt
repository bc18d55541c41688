use Rattle.p3_field.proofs.Lemmas.{◌+◌, ◌*◌, ◌<◌, length, ap, rules, get_or, lt_of_lt_of_le, set, ◌∙◌, place_inside, get_or_default, length-set, next_first}
use Rattle.p3_field.proofs.Lemmas.{next_second, first_inside, second_inside}
use borrow.Author.Rules.{scaled_Fits, Below-set}
use Rattle.p3_field.proofs.lanes.LanesPackedField.store_pairs.Goals as goal

pub loop-i-preserved : goal.loop-i-preserved
loop-i-preserved g c =
    let value = g.F.Valued.value in
    let zero = g.F.Valued.zero in
    let inside : 2 * c.loop-i.i + 1 < length c.loop-i.to = second_inside c.loop-i.to c.loop-i.i g.row.N c.loop-i.invariant.long c.loop-i-test.true in
    record {
      long = length-set (set c.loop-i.to (2 * c.loop-i.i) _) (2 * c.loop-i.i + 1) _ ∙ length-set c.loop-i.to (2 * c.loop-i.i) _ ∙ c.loop-i.invariant.long;
      first = next_first value zero (λ k. value (get_or c.args.self.lanes k zero)) c.loop-i.to c.loop-i.i _ _ inside c.loop-i.invariant.first
          (ap value (get_or_default c.args.self.lanes c.loop-i.i _ _ (place_inside c.args.self.lanes c.loop-i.i _ c.args.self.long c.loop-i-test.true)));
      second = next_second value zero (λ k. value (get_or c.args.second.lanes k zero)) c.loop-i.to c.loop-i.i _ _ inside c.loop-i.invariant.second
          (ap value (get_or_default c.args.second.lanes c.loop-i.i _ _ (place_inside c.args.second.lanes c.loop-i.i _ c.args.second.long c.loop-i-test.true)));
    }

pub returns : goal.returns
returns g c = record {
  first = λ i below. c.loop-i.invariant.first i (lt_of_lt_of_le below c.loop-i-test.false);
  second = λ i below. c.loop-i.invariant.second i (lt_of_lt_of_le below c.loop-i-test.false);
}

pub offset_bounds-to-i : goal.offset_bounds-to-i
offset_bounds-to-i g c = scaled_Fits _ _ _ (first_inside c.args.to.now c.loop-i.i g.row.N c.requires c.loop-i-test.true) (search rules)

pub bounds-to-i-in-loop-i : goal.bounds-to-i-in-loop-i
bounds-to-i-in-loop-i g c = Below-set _ _ _ _ _ (second_inside c.loop-i.to c.loop-i.i g.row.N c.loop-i.invariant.long c.loop-i-test.true)

pub offset_bounds-to-i-in-loop-i : goal.offset_bounds-to-i-in-loop-i
offset_bounds-to-i-in-loop-i g c = scaled_Fits _ _ _ (second_inside c.args.to.now c.loop-i.i g.row.N c.requires c.loop-i-test.true) (search rules)
