use Rattle.p3_field.proofs.Lemmas.{rules, sym, ◌∙◌, length, map, refl, le_antisymm, place_inside, length-map, get_or-map, length-set, written, all_written}
use borrow.Author.Rules.{scaled_Fits}
use Rattle.p3_field.proofs.lanes.LanesPackedField.store.Goals as goal

pub loop-i-preserved : goal.loop-i-preserved
loop-i-preserved g c =
    let value = g.F.Valued.value in
    let lanes = c.args.self.lanes in
    record {
      long = length-set c.loop-i.to c.loop-i.i _ ∙ c.loop-i.invariant.long;
      lanes =
          written value c.args.to.now (map value lanes) (length-map lanes value ∙ c.args.self.long ∙ sym c.requires)
          c.loop-i.to c.loop-i.i _ (value c.index-self-i.result)
          (place_inside c.args.to.now c.loop-i.i _ c.requires c.loop-i-test.true) c.loop-i.invariant.lanes
          (sym (get_or-map value lanes c.loop-i.i c.index-self-i.result (value c.index-self-i.result)
          (place_inside lanes c.loop-i.i _ c.args.self.long c.loop-i-test.true)));
    }

pub returns : goal.returns
returns g c =
    let value = g.F.Valued.value in
    let lanes = c.args.self.lanes in
    all_written value c.args.to.now (map value lanes) (length-map lanes value ∙ c.args.self.long ∙ sym c.requires) c.loop-i.to c.loop-i.i
    (le_antisymm c.loop-i.auto.i-end c.loop-i-test.false ∙ sym c.requires) c.loop-i.invariant.lanes

pub loop-i-init : goal.loop-i-init
loop-i-init g c = record { long = c.requires; lanes = refl }

pub offset_bounds-to-i : goal.offset_bounds-to-i
offset_bounds-to-i g c = scaled_Fits _ (length c.args.to.now) _ (place_inside c.args.to.now c.loop-i.i _ c.requires c.loop-i-test.true) (search rules)
