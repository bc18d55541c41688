use Rattle.p3_field.proofs.Lemmas.{rules, ap, sym, ◌∙◌, map, replicate, refl, le_antisymm, place_inside, length-map, length-replicate, get_or-map, length-set}
use Rattle.p3_field.proofs.Lemmas.{written, all_written}
use borrow.Author.Rules.{scaled_Fits}
use Rattle.p3_field.proofs.lanes.LanesPackedField.load.Goals as goal

pub loop-i-preserved : goal.loop-i-preserved
loop-i-preserved g c =
    let value = g.F.Valued.value in
    let start = replicate g.row.N c.ZERO-lanes.result in
    let wide = length-replicate g.row.N c.ZERO-lanes.result in
    record {
      long = length-set c.loop-i.lanes c.loop-i.i _ ∙ c.loop-i.invariant.long;
      lanes =
          written value start (map value c.args.from.now) (length-map c.args.from.now value ∙ c.requires ∙ sym wide)
          c.loop-i.lanes c.loop-i.i c.index-from-i.result (value c.index-from-i.result)
          (place_inside start c.loop-i.i _ wide c.loop-i-test.true) c.loop-i.invariant.lanes
          (ap value c.index-from-i.is
          ∙ sym (get_or-map value c.args.from.now c.loop-i.i c.index-from-i.result (value c.index-from-i.result)
          (place_inside c.args.from.now c.loop-i.i _ c.requires c.loop-i-test.true)));
    }

pub returns : goal.returns
returns g c =
    let value = g.F.Valued.value in
    let wide = length-replicate g.row.N c.ZERO-lanes.result in
    all_written value (replicate g.row.N c.ZERO-lanes.result) (map value c.args.from.now)
    (length-map c.args.from.now value ∙ c.requires ∙ sym wide) c.loop-i.lanes c.loop-i.i
    (le_antisymm c.loop-i.auto.i-end c.loop-i-test.false ∙ sym wide) c.loop-i.invariant.lanes

pub loop-i-init : goal.loop-i-init
loop-i-init g c = record { long = length-replicate g.row.N _; lanes = refl }

pub offset_bounds-lanes-i : goal.offset_bounds-lanes-i
offset_bounds-lanes-i g c = scaled_Fits _ g.row.N _ c.loop-i-test.true (search rules)
