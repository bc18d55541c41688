use Rattle.p3_matrix.proofs.Lemmas.{◌≡◌, ◌+◌, ◌-◌, ◌≤◌, length, map, drop, take, refl, sym, ap, ◌∙◌, arith, subst, lt_of_le_of_lt, ◌<◌, length-map}
use Rattle.p3_matrix.proofs.Lemmas.{by_lanes_of_left, next_pack, pack_done, pack_fits, rows_done_all, pack_within, pack_sizes}
use Rattle.p3_matrix.proofs.packs.scale_packs.Goals as goal

pub loop-at-preserved : goal.loop-at-preserved
loop-at-preserved g c =
    let f = g.F.Valued in
    let times = λ (x : f.Element). f.ring.mul x (f.value c.args.t) in
    let op = λ (x y : f.Element). times x in
    let l = c.loop-at in
    let w = c.WIDTH-width.result in
    let k = l.at + w - l.at in
    let xs = map f.value c.args.values.now in
    let sizes =
    pack_sizes l.at w (length c.args.values.now) (length xs) (pack_within l.at l.invariant.left.0 w _
    (length c.args.values.now) c.loop-at-test.true l.auto.values l.invariant.left.1)
    (length-map c.args.values.now f.value) in
    let part = next_pack op f.value l.at xs xs xs l.values k sizes.0 refl l.invariant.done in
    record {
      width = l.invariant.width;
      left = pack_fits l.at l.invariant.left.0 w (length c.args.values.now) (subst (λ n. l.at < n) l.auto.values c.loop-at-test.true) l.invariant.left.1;
      done = pack_done op f.value l.at xs xs xs l.values k (l.at + w) c.scale_pack.new.part sizes.1.0 refl sizes.1.1 l.invariant.done
          (c.scale_pack.ensures.values ∙ ap (map times) part ∙ sym (by_lanes_of_left times (take k (drop l.at xs)) (take k (drop l.at xs)) refl));
      count = omega (arith, l.invariant.count, c.scale_pack.ensures.count, c.WIDTH-width.ensures);
    }

pub returns-clause-values : goal.returns-clause-values
returns-clause-values g c =
    let f = g.F.Valued in
    let times = λ (x : f.Element). f.ring.mul x (f.value c.args.t) in
    let l = c.loop-at in
    let xs = map f.value c.args.values.now in
    let all : l.at ≡ length xs = omega (arith, length-map c.args.values.now f.value, c.loop-at-test.false, l.auto.values, l.invariant.left.1) in
    l.invariant.done ∙ rows_done_all (λ x y. times x) l.at xs xs xs all refl refl ∙ by_lanes_of_left times xs xs refl

pub slice_bounds-scale_pack-end : goal.slice_bounds-scale_pack-end
slice_bounds-scale_pack-end g c =
    subst (λ n. c.loop-at.at + c.WIDTH-width.result ≤ n) (sym c.loop-at.auto.values) (pack_within c.loop-at.at
    c.loop-at.invariant.left.0 c.WIDTH-width.result _ (length c.args.values.now) c.loop-at-test.true
    c.loop-at.auto.values c.loop-at.invariant.left.1)

pub overflow_add-at : goal.overflow_add-at
overflow_add-at g c = record {
  fits =
      lt_of_le_of_lt (pack_within c.loop-at.at c.loop-at.invariant.left.0 c.WIDTH-width.result _
      (length c.args.values.now) c.loop-at-test.true c.loop-at.auto.values c.loop-at.invariant.left.1)
      c.well_formed.0.0;
}

pub overflow_add-at-in-loop-at : goal.overflow_add-at-in-loop-at
overflow_add-at-in-loop-at g c = record {
  fits =
      lt_of_le_of_lt (pack_within c.loop-at.at c.loop-at.invariant.left.0 c.WIDTH-width.result _
      (length c.args.values.now) c.loop-at-test.true c.loop-at.auto.values c.loop-at.invariant.left.1)
      c.well_formed.0.0;
}
