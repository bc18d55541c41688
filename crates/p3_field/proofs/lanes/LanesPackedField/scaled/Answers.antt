use Rattle.p3_field.proofs.Lemmas.{rules, sym, ◌∙◌, map, refl, le_antisymm, length-map, length-set, more_images, all_written}
use borrow.Author.Rules.{scaled_Fits}
use Rattle.p3_field.proofs.lanes.LanesPackedField.scaled.Goals as goal

pub loop-i-preserved : goal.loop-i-preserved
loop-i-preserved g c = record {
  long = length-set c.loop-i.lanes c.loop-i.i _ ∙ c.loop-i.invariant.long;
  lanes =
      more_images g.F.Valued.value (λ x. g.F.Valued.ring.mul x (g.F.Valued.value c.args.t)) c.args.self.lanes c.loop-i.lanes c.loop-i.i c.mul.result _ g.row.N
      (sym c.args.self.long) c.loop-i-test.true c.loop-i.invariant.long c.loop-i.invariant.lanes (g.met.F.Field.mul_law _ _ _ c.mul.ensures);
}

pub returns-clause-lanes : goal.returns-clause-lanes
returns-clause-lanes g c =
    let op : g.F.Valued.Element → g.F.Valued.Element = λ x. g.F.Valued.ring.mul x (g.F.Valued.value c.args.t) in
    let values = map g.F.Valued.value c.args.self.lanes in
    all_written g.F.Valued.value c.args.self.lanes (map op values)
    (length-map values op ∙ length-map c.args.self.lanes g.F.Valued.value) c.loop-i.lanes c.loop-i.i
    (le_antisymm c.loop-i.auto.i-end c.loop-i-test.false ∙ sym c.args.self.long) c.loop-i.invariant.lanes

pub loop-i-init : goal.loop-i-init
loop-i-init g c = record { long = c.args.self.long; lanes = refl }

pub offset_bounds-lanes-i : goal.offset_bounds-lanes-i
offset_bounds-lanes-i g c = scaled_Fits _ g.row.N _ c.loop-i-test.true (search rules)

pub offset_bounds-lanes-i-in-loop-i : goal.offset_bounds-lanes-i-in-loop-i
offset_bounds-lanes-i-in-loop-i g c = scaled_Fits _ g.row.N _ c.loop-i-test.true (search rules)
