use Rattle.p3_matrix.proofs.Lemmas.{◌≡◌, ◌<◌, length, map, sym, ap, ap₂, ◌∙◌, arith, subst, length-map, of_one_lane, element_stays, element_done, elements_done}
use Rattle.p3_matrix.proofs.Lemmas.{more_products}
use Rattle.p3_matrix.proofs.packs.apply_to_elements.Goals as goal

-- One more element of both rows. What is read at i is what the rows held there at first (`element_stays`), and the
-- butterfly of one lane makes the near and the far value of the two (`of_one_lane`). So the rows are done up to i + 1
-- (`element_done`).
pub loop-i-preserved : goal.loop-i-preserved
loop-i-preserved g c =
    let f = g.F.Valued in
    let v = f.value in
    let near = g.B.Butterfly.near f.Element f.ring v c.args.butterfly.now in
    let far = g.B.Butterfly.far f.Element f.ring v c.args.butterfly.now in
    let l = c.loop-i in
    let r = c.apply-near.result in
    let lanes = g.F.PackedField.lanes in
    let law = g.met.F.Packable.lane_law in
    let xs = map v c.args.row_1.now in
    let ys = map v c.args.row_2.now in
    let wide : length xs ≡ length c.args.row_1.now = length-map c.args.row_1.now v in
    let tall : length ys ≡ length c.args.row_2.now = length-map c.args.row_2.now v in
    let same : length ys ≡ length xs = tall ∙ sym c.requires ∙ sym wide in
    let below : l.i < length xs = subst (λ n. l.i < n) (sym wide) c.loop-i-test.true in
    let d = v r.0 in
    let here = ap v c.index-row_1-i.is ∙ element_stays v near xs ys same c.args.row_1.now (sym wide) l.row_1 l.i _ d below l.auto.row_1 l.invariant.near in
    let there =
    ap v c.index-row_2-i.is
    ∙ element_stays v far xs ys same c.args.row_2.now (sym c.requires ∙ sym wide) l.row_2 l.i _ d below l.auto.row_2
    l.invariant.far in
    record {
      near =
          element_done v near xs ys same c.args.row_1.now (sym wide) l.row_1 l.i r.0 d below l.invariant.near
          (of_one_lane v near lanes law c.index-row_1-i.result c.index-row_2-i.result r.0 c.apply-near.ensures.near
          ∙ ap₂ near here there);
      far =
          element_done v far xs ys same c.args.row_2.now (sym c.requires ∙ sym wide) l.row_2 l.i r.1 d below
          l.invariant.far (of_one_lane v far lanes law c.index-row_1-i.result c.index-row_2-i.result r.1 c.apply-near.ensures.far
          ∙ ap₂ far here there);
      count = more_products _ _ _ _ _ 1 _ l.invariant.count c.apply-near.ensures.count (sym g.met.F.Packable.one_lane_law);
    }

pub returns-clause-near : goal.returns-clause-near
returns-clause-near g c =
    let f = g.F.Valued in
    let xs = c.args.row_1.now in
    let ys = c.args.row_2.now in
    let wide : length (map f.value xs) ≡ length xs = length-map xs f.value in
    elements_done f.value (g.B.Butterfly.near f.Element f.ring f.value c.args.butterfly.now) (map f.value xs)
    (map f.value ys) (length-map ys f.value ∙ sym c.requires ∙ sym wide) xs (sym wide) c.loop-i.row_1 c.loop-i.i
    (omega (arith, c.loop-i-test.false, c.loop-i.auto.i-end, wide)) c.loop-i.invariant.near

pub returns-clause-far : goal.returns-clause-far
returns-clause-far g c =
    let f = g.F.Valued in
    let xs = c.args.row_1.now in
    let ys = c.args.row_2.now in
    let wide : length (map f.value xs) ≡ length xs = length-map xs f.value in
    elements_done f.value (g.B.Butterfly.far f.Element f.ring f.value c.args.butterfly.now) (map f.value xs)
    (map f.value ys) (length-map ys f.value ∙ sym c.requires ∙ sym wide) ys (sym c.requires ∙ sym wide)
    c.loop-i.row_2 c.loop-i.i
    (omega (arith, c.loop-i-test.false, c.loop-i.auto.i-end, wide)) c.loop-i.invariant.far
