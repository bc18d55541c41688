use Rattle.p3_matrix.proofs.Lemmas.{◌≡◌, ◌+◌, ◌-◌, ◌*◌, ◌≤◌, length, map, drop, take, sym, ap, ap₂, ◌∙◌, ◌<◌, subst, refl, lt_of_le_of_lt, length-map, take-map}
use Rattle.p3_matrix.proofs.Lemmas.{drop-map, by_lanes, pack_done, pack_fits, pack_within, loop_ends, packs_done, pack_sizes, more_products}
use borrow.Author.Rules.{scaled_Fits}
use Rattle.p3_matrix.proofs.packs.apply_to_packs_oop.Goals as goal

-- One more pack of both outputs. What is loaded are the values of the sources at the pack's places, and the butterfly
-- takes them lane by lane. So what is stored are the outputs at these places, which are done up to the pack's end
-- (`pack_done`).
pub loop-at-preserved : goal.loop-at-preserved
loop-at-preserved g c =
    let f = g.F.Valued in
    let v = f.value in
    let near = g.B.Butterfly.near f.Element f.ring v c.args.butterfly.now in
    let far = g.B.Butterfly.far f.Element f.ring v c.args.butterfly.now in
    let l = c.loop-at in
    let w = c.WIDTH-width.result in
    let k = l.at + w - l.at in
    let xs = map v c.args.src_1.now in
    let ys = map v c.args.src_2.now in
    let sizes =
    pack_sizes l.at w (length c.args.src_1.now) (length xs)
    (pack_within l.at l.invariant.left.0 w _ (length c.args.src_1.now) c.loop-at-test.true refl l.invariant.left.1)
    (length-map c.args.src_1.now v) in
    let equal : length xs ≡ length ys = length-map c.args.src_1.now v ∙ c.requires.sources ∙ sym (length-map c.args.src_2.now v) in
    let part_1 : map v (take k (drop l.at c.args.src_1.now)) ≡ take k (drop l.at xs) =
    sym (take-map v k (drop l.at c.args.src_1.now)) ∙ ap (take k) (sym (drop-map v l.at c.args.src_1.now)) in
    let part_2 : map v (take k (drop l.at c.args.src_2.now)) ≡ take k (drop l.at ys) =
    sym (take-map v k (drop l.at c.args.src_2.now)) ∙ ap (take k) (sym (drop-map v l.at c.args.src_2.now)) in
    let loaded_1 = c.load.ensures ∙ part_1 in
    let loaded_2 = c.load-in-loop-at.ensures ∙ part_2 in
    record {
      width = l.invariant.width;
      left = pack_fits l.at l.invariant.left.0 w (length c.args.src_1.now) c.loop-at-test.true l.invariant.left.1;
      near = pack_done near v l.at xs ys (map v c.args.dst_1.now) l.dst_1 k (l.at + w) c.store.new.to sizes.1.0 equal sizes.1.1 l.invariant.near
          (c.store.ensures ∙ c.apply-near.ensures.near ∙ ap₂ (by_lanes near) loaded_1 loaded_2);
      far = pack_done far v l.at xs ys (map v c.args.dst_2.now) l.dst_2 k (l.at + w) c.store-in-loop-at.new.to sizes.1.0 equal sizes.1.1 l.invariant.far
          (c.store-in-loop-at.ensures ∙ c.apply-near.ensures.far ∙ ap₂ (by_lanes far) loaded_1 loaded_2);
      count = more_products _ _ _ _ _ _ _ l.invariant.count c.apply-near.ensures.count c.WIDTH-width.ensures;
    }

pub offset_bounds-dst_1-at : goal.offset_bounds-dst_1-at
offset_bounds-dst_1-at g c = scaled_Fits _ _ _ (subst (λ n. c.loop-at.at < n) c.requires.first c.loop-at-test.true) c.well_formed.1.1.0.1

pub offset_bounds-dst_2-at : goal.offset_bounds-dst_2-at
offset_bounds-dst_2-at g c = scaled_Fits _ _ _ (subst (λ n. c.loop-at.at < n) c.requires.second c.loop-at-test.true) c.well_formed.1.1.1.1.0.1

pub overflow_add-part_1 : goal.overflow_add-part_1
overflow_add-part_1 g c = record {
  fits =
      lt_of_le_of_lt (pack_within c.loop-at.at c.loop-at.invariant.left.0 c.WIDTH-width.result _
      (length c.args.src_1.now) c.loop-at-test.true refl c.loop-at.invariant.left.1) c.well_formed.1.0.0;
}

pub overflow_add-part_2 : goal.overflow_add-part_2
overflow_add-part_2 g c = record {
  fits =
      lt_of_le_of_lt (pack_within c.loop-at.at c.loop-at.invariant.left.0 c.WIDTH-width.result _
      (length c.args.src_1.now) c.loop-at-test.true refl c.loop-at.invariant.left.1) c.well_formed.1.0.0;
}

pub overflow_add-at : goal.overflow_add-at
overflow_add-at g c = record {
  fits =
      lt_of_le_of_lt (pack_within c.loop-at.at c.loop-at.invariant.left.0 c.WIDTH-width.result _
      (length c.args.src_1.now) c.loop-at-test.true refl c.loop-at.invariant.left.1) c.well_formed.1.0.0;
}

pub overflow_add-at-in-loop-at : goal.overflow_add-at-in-loop-at
overflow_add-at-in-loop-at g c = record {
  fits =
      lt_of_le_of_lt (pack_within c.loop-at.at c.loop-at.invariant.left.0 c.WIDTH-width.result _
      (length c.args.src_1.now) c.loop-at-test.true refl c.loop-at.invariant.left.1) c.well_formed.1.0.0;
}

pub overflow_add-at-in-loop-at-2 : goal.overflow_add-at-in-loop-at-2
overflow_add-at-in-loop-at-2 g c = record {
  fits =
      lt_of_le_of_lt (pack_within c.loop-at.at c.loop-at.invariant.left.0 c.WIDTH-width.result _
      (length c.args.src_1.now) c.loop-at-test.true refl c.loop-at.invariant.left.1) c.well_formed.1.0.0;
}

pub returns : goal.returns
returns g c =
    let end = loop_ends _ _ _ _ c.loop-at-test.false refl c.loop-at.invariant.left.1 in
    record {
      near =
          c.loop-at.invariant.near
          ∙ packs_done g.F.Valued.value
          (g.B.Butterfly.near g.F.Valued.Element g.F.Valued.ring g.F.Valued.value c.args.butterfly.now) c.loop-at.at
          c.args.src_1.now c.args.src_2.now c.args.dst_1.now end c.requires.sources c.requires.first;
      far =
          c.loop-at.invariant.far
          ∙ packs_done g.F.Valued.value
          (g.B.Butterfly.far g.F.Valued.Element g.F.Valued.ring g.F.Valued.value c.args.butterfly.now) c.loop-at.at
          c.args.src_1.now c.args.src_2.now c.args.dst_2.now end c.requires.sources c.requires.second;
      count = c.loop-at.invariant.count ∙ ap (λ n. c.args.products.now + g.B.Butterfly.cost * n) end;
    }

pub slice_bounds-part_1-end : goal.slice_bounds-part_1-end
slice_bounds-part_1-end g c =
    pack_within c.loop-at.at c.loop-at.invariant.left.0 c.WIDTH-width.result _ (length c.args.src_1.now)
    c.loop-at-test.true refl c.loop-at.invariant.left.1

pub slice_bounds-part_2-end : goal.slice_bounds-part_2-end
slice_bounds-part_2-end g c =
    subst (λ n. c.loop-at.at + c.WIDTH-width.result ≤ n) (c.requires.sources) (pack_within c.loop-at.at
    c.loop-at.invariant.left.0 c.WIDTH-width.result _ (length c.args.src_1.now) c.loop-at-test.true refl
    c.loop-at.invariant.left.1)

pub slice_bounds-store-end : goal.slice_bounds-store-end
slice_bounds-store-end g c =
    subst (λ n. c.loop-at.at + c.WIDTH-width.result ≤ n) (c.requires.first ∙ sym c.loop-at.auto.dst_1) (pack_within
    c.loop-at.at c.loop-at.invariant.left.0 c.WIDTH-width.result _ (length c.args.src_1.now) c.loop-at-test.true refl
    c.loop-at.invariant.left.1)

pub slice_bounds-store-end-in-loop-at : goal.slice_bounds-store-end-in-loop-at
slice_bounds-store-end-in-loop-at g c =
    subst (λ n. c.loop-at.at + c.WIDTH-width.result ≤ n) (c.requires.second ∙ sym c.loop-at.auto.dst_2) (pack_within
    c.loop-at.at c.loop-at.invariant.left.0 c.WIDTH-width.result _ (length c.args.src_1.now) c.loop-at-test.true refl
    c.loop-at.invariant.left.1)
