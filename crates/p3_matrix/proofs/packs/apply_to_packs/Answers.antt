use Rattle.p3_matrix.proofs.Lemmas.{◌≡◌, ◌+◌, ◌-◌, ◌*◌, ◌≤◌, length, map, sym, ap, ap₂, ◌∙◌, ◌<◌, subst, refl, lt_of_le_of_lt, length-map, by_lanes, next_pack}
use Rattle.p3_matrix.proofs.Lemmas.{pack_done, pack_fits, pack_within, loop_ends, packs_done, pack_sizes, more_products}
use Rattle.p3_matrix.proofs.packs.apply_to_packs.Goals as goal

pub loop-at-preserved : goal.loop-at-preserved
loop-at-preserved g c =
    let f = g.F.Valued in
    let v = f.value in
    let near = g.B.Butterfly.near f.Element f.ring v c.args.butterfly.now in
    let far = g.B.Butterfly.far f.Element f.ring v c.args.butterfly.now in
    let l = c.loop-at in
    let w = c.WIDTH-width.result in
    let k = l.at + w - l.at in
    let xs = map v c.args.row_1.now in
    let ys = map v c.args.row_2.now in
    let sizes =
    pack_sizes l.at w (length c.args.row_1.now) (length xs) (pack_within l.at l.invariant.left.0 w _
    (length c.args.row_1.now) c.loop-at-test.true l.auto.row_1 l.invariant.left.1) (length-map c.args.row_1.now v) in
    let equal : length xs ≡ length ys = length-map c.args.row_1.now v ∙ c.requires.equal ∙ sym (length-map c.args.row_2.now v) in
    let part_1 = next_pack near v l.at xs ys xs l.row_1 k sizes.0 equal l.invariant.near in
    let part_2 = next_pack far v l.at xs ys ys l.row_2 k sizes.0 equal l.invariant.far in
    record {
      width = l.invariant.width;
      left = pack_fits l.at l.invariant.left.0 w (length c.args.row_1.now) (subst (λ n. l.at < n) l.auto.row_1 c.loop-at-test.true) l.invariant.left.1;
      near =
          pack_done near v l.at xs ys xs l.row_1 k (l.at + w) c.apply_to_pack.new.part_1 sizes.1.0 equal sizes.1.1
          l.invariant.near (c.apply_to_pack.ensures.near ∙ ap₂ (by_lanes near) part_1 part_2);
      far =
          pack_done far v l.at xs ys ys l.row_2 k (l.at + w) c.apply_to_pack.new.part_2 sizes.1.0 equal sizes.1.1
          l.invariant.far (c.apply_to_pack.ensures.far ∙ ap₂ (by_lanes far) part_1 part_2);
      count = more_products _ _ _ _ _ _ _ l.invariant.count c.apply_to_pack.ensures.count c.WIDTH-width.ensures;
    }

pub overflow_add-at : goal.overflow_add-at
overflow_add-at g c = record {
  fits =
      lt_of_le_of_lt (pack_within c.loop-at.at c.loop-at.invariant.left.0 c.WIDTH-width.result _
      (length c.args.row_1.now) c.loop-at-test.true c.loop-at.auto.row_1 c.loop-at.invariant.left.1)
      c.well_formed.1.0.0;
}

pub overflow_add-at-in-loop-at : goal.overflow_add-at-in-loop-at
overflow_add-at-in-loop-at g c = record {
  fits =
      lt_of_le_of_lt (pack_within c.loop-at.at c.loop-at.invariant.left.0 c.WIDTH-width.result _
      (length c.args.row_1.now) c.loop-at-test.true c.loop-at.auto.row_1 c.loop-at.invariant.left.1)
      c.well_formed.1.0.0;
}

pub overflow_add-at-in-loop-at-2 : goal.overflow_add-at-in-loop-at-2
overflow_add-at-in-loop-at-2 g c = record {
  fits =
      lt_of_le_of_lt (pack_within c.loop-at.at c.loop-at.invariant.left.0 c.WIDTH-width.result _
      (length c.args.row_1.now) c.loop-at-test.true c.loop-at.auto.row_1 c.loop-at.invariant.left.1)
      c.well_formed.1.0.0;
}

pub slice_bounds-apply_to_pack-end : goal.slice_bounds-apply_to_pack-end
slice_bounds-apply_to_pack-end g c =
    subst (λ n. c.loop-at.at + c.WIDTH-width.result ≤ n) (sym c.loop-at.auto.row_1) (pack_within c.loop-at.at
    c.loop-at.invariant.left.0 c.WIDTH-width.result _ (length c.args.row_1.now) c.loop-at-test.true
    c.loop-at.auto.row_1 c.loop-at.invariant.left.1)

pub slice_bounds-apply_to_pack-end-in-loop-at : goal.slice_bounds-apply_to_pack-end-in-loop-at
slice_bounds-apply_to_pack-end-in-loop-at g c =
    subst (λ n. c.loop-at.at + c.WIDTH-width.result ≤ n) (c.requires.equal ∙ sym c.loop-at.auto.row_2) (pack_within
    c.loop-at.at c.loop-at.invariant.left.0 c.WIDTH-width.result _ (length c.args.row_1.now) c.loop-at-test.true
    c.loop-at.auto.row_1 c.loop-at.invariant.left.1)

pub returns : goal.returns
returns g c =
    let end = loop_ends _ _ _ _ c.loop-at-test.false c.loop-at.auto.row_1 c.loop-at.invariant.left.1 in
    record {
      near =
          c.loop-at.invariant.near
          ∙ packs_done g.F.Valued.value
          (g.B.Butterfly.near g.F.Valued.Element g.F.Valued.ring g.F.Valued.value c.args.butterfly.now) c.loop-at.at
          c.args.row_1.now c.args.row_2.now c.args.row_1.now end c.requires.equal refl;
      far =
          c.loop-at.invariant.far
          ∙ packs_done g.F.Valued.value
          (g.B.Butterfly.far g.F.Valued.Element g.F.Valued.ring g.F.Valued.value c.args.butterfly.now) c.loop-at.at
          c.args.row_1.now c.args.row_2.now c.args.row_2.now end c.requires.equal c.requires.equal;
      count = c.loop-at.invariant.count ∙ ap (λ n. c.args.products.now + g.B.Butterfly.cost * n) end;
    }
