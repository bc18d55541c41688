use Rattle.p3_field.proofs.Lemmas.{◌+◌, ◌*◌, ◌∙◌, ap, rules, get_or, lt_of_lt_of_le, place_inside, get_or_default, length-replicate, length-set, next_written}
use Rattle.p3_field.proofs.Lemmas.{first_inside, second_inside}
use borrow.Author.Count.{below_none}
use borrow.Author.Rules.{scaled_Fits}
use Rattle.p3_field.proofs.lanes.LanesPackedField.load_pairs.Goals as goal

pub loop-i-preserved : goal.loop-i-preserved
loop-i-preserved g c =
    let value = g.F.Valued.value in
    let zero = g.F.Valued.zero in
    record {
      long = length-set c.loop-i.first c.loop-i.i _ ∙ c.loop-i.invariant.long;
      long_second = length-set c.loop-i.second c.loop-i.i _ ∙ c.loop-i.invariant.long_second;
      first =
          next_written value zero (λ k. value (get_or c.args.from.now (2 * k) zero)) c.loop-i.first c.loop-i.i _
          (place_inside c.loop-i.first c.loop-i.i _ c.loop-i.invariant.long c.loop-i-test.true) c.loop-i.invariant.first
          (ap value (c.index-from-i.is
          ∙ get_or_default c.args.from.now (2 * c.loop-i.i) _ _
          (first_inside c.args.from.now c.loop-i.i g.row.N c.requires c.loop-i-test.true)));
      second =
          next_written value zero (λ k. value (get_or c.args.from.now (2 * k + 1) zero)) c.loop-i.second c.loop-i.i _
          (place_inside c.loop-i.second c.loop-i.i _ c.loop-i.invariant.long_second c.loop-i-test.true)
          c.loop-i.invariant.second
          (ap value (c.index-from-i-in-loop-i.is
          ∙ get_or_default c.args.from.now (2 * c.loop-i.i + 1) _ _
          (second_inside c.args.from.now c.loop-i.i g.row.N c.requires c.loop-i-test.true)));
    }

pub loop-i-init : goal.loop-i-init
loop-i-init g c = record { long = length-replicate g.row.N _; long_second = length-replicate g.row.N _; first = below_none _; second = below_none _ }

pub returns : goal.returns
returns g c = record {
  first = λ i below. c.loop-i.invariant.first i (lt_of_lt_of_le below c.loop-i-test.false);
  second = λ i below. c.loop-i.invariant.second i (lt_of_lt_of_le below c.loop-i-test.false);
}

pub offset_bounds-first-i : goal.offset_bounds-first-i
offset_bounds-first-i g c = scaled_Fits _ g.row.N _ c.loop-i-test.true (search rules)

pub offset_bounds-second-i : goal.offset_bounds-second-i
offset_bounds-second-i g c = scaled_Fits _ g.row.N _ c.loop-i-test.true (search rules)
