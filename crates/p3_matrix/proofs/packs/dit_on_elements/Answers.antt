use Rattle.p3_matrix.proofs.Lemmas.{◌≡◌, ◌<◌, length, map, get_or, sym, ap, ap₂, ◌∙◌, arith, subst, length-map, get_or-map, by_lanes, minus, get_or-by_lanes}
use Rattle.p3_matrix.proofs.Lemmas.{length-by_lanes, element_stays, element_done, elements_done, products_long}
use Rattle.p3_matrix.proofs.packs.dit_on_elements.Goals as goal

-- One more element of both rows. What is read at i is what the rows held there at first (`element_stays`), and the
-- multiple is the product of the second row and the twiddle at i. So sum and difference are those at place i, and the
-- rows are done up to i + 1 (`element_done`).
pub loop-i-preserved : goal.loop-i-preserved
loop-i-preserved g c =
    let f = g.F.Valued in
    let r = f.ring in
    let v = f.value in
    let l = c.loop-i in
    let xs = map v c.args.row_1.now in
    let ys = map v c.args.row_2.now in
    let ts = map v c.args.twiddles.now in
    let ms = by_lanes r.mul ys ts in
    let wide : length xs ≡ length c.args.row_1.now = length-map c.args.row_1.now v in
    let tall : length ys ≡ length xs = length-map c.args.row_2.now v ∙ sym c.requires.rows ∙ sym wide in
    let turned : length ts ≡ length ys = length-map c.args.twiddles.now v ∙ sym c.requires.twiddles ∙ sym wide ∙ sym tall in
    let same : length ms ≡ length xs = length-by_lanes r.mul ys ts (sym turned) ∙ tall in
    let below : l.i < length xs = subst (λ n. l.i < n) (sym wide) c.loop-i-test.true in
    let d = v c.scaled-multiple.result in
    let here = ap v c.index-row_1-i.is ∙ element_stays v r.add xs ms same c.args.row_1.now (sym wide) l.row_1 l.i _ d below l.auto.row_1 l.invariant.near in
    let there =
    ap v c.index-row_2-i.is
    ∙ element_stays v (minus r) xs ms same c.args.row_2.now (sym c.requires.rows ∙ sym wide) l.row_2 l.i _ d below
    l.auto.row_2 l.invariant.far in
    let by = ap v c.index-twiddles-i.is ∙ sym (get_or-map v c.args.twiddles.now l.i _ d (subst (λ n. l.i < n) c.requires.twiddles c.loop-i-test.true)) in
    let multiple : d ≡ get_or ms l.i d =
    c.scaled-multiple.ensures.value ∙ ap₂ r.mul there by
    ∙ sym (get_or-by_lanes r.mul ys ts l.i d turned (subst (λ n. l.i < n) (sym tall) below)) in
    record {
      near =
          element_done v r.add xs ms same c.args.row_1.now (sym wide) l.row_1 l.i _ d below l.invariant.near
          (g.met.F.Field.add_law _ _ _ c.add.ensures ∙ ap₂ r.add here multiple);
      far =
          element_done v (minus r) xs ms same c.args.row_2.now (sym c.requires.rows ∙ sym wide) l.row_2 l.i _ d below
          l.invariant.far (g.met.F.Field.sub_law _ _ _ c.sub.ensures ∙ ap₂ (minus r) here multiple);
      count = omega (arith, l.invariant.count, c.scaled-multiple.ensures.count);
    }

pub returns-clause-near : goal.returns-clause-near
returns-clause-near g c =
    let f = g.F.Valued in
    let xs = c.args.row_1.now in
    let wide : length (map f.value xs) ≡ length xs = length-map xs f.value in
    let same = products_long f.value f.ring.mul xs c.args.row_2.now c.args.twiddles.now c.requires.rows c.requires.twiddles in
    elements_done f.value f.ring.add (map f.value xs) _ same c.args.row_1.now (sym wide) c.loop-i.row_1 c.loop-i.i
    (omega (arith, c.loop-i-test.false, c.loop-i.auto.i-end, wide)) c.loop-i.invariant.near

pub returns-clause-far : goal.returns-clause-far
returns-clause-far g c =
    let f = g.F.Valued in
    let xs = c.args.row_1.now in
    let wide : length (map f.value xs) ≡ length xs = length-map xs f.value in
    let same = products_long f.value f.ring.mul xs c.args.row_2.now c.args.twiddles.now c.requires.rows c.requires.twiddles in
    elements_done f.value (minus f.ring) (map f.value xs) _ same c.args.row_2.now (sym c.requires.rows ∙ sym wide) c.loop-i.row_2 c.loop-i.i
    (omega (arith, c.loop-i-test.false, c.loop-i.auto.i-end, wide)) c.loop-i.invariant.far
