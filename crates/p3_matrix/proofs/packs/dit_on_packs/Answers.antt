use Rattle.p3_matrix.proofs.Lemmas.{◌≡◌, ◌+◌, ◌-◌, ◌≤◌, length, map, take, drop, refl, sym, ap, ap₂, ◌∙◌, arith, ◌<◌, subst, lt_of_le_of_lt, length-map}
use Rattle.p3_matrix.proofs.Lemmas.{take-map, drop-map, by_lanes, minus, next_pack, pack_done, pack_fits, products_long, rows_done_all, pack_within, pack_sizes}
use Rattle.p3_matrix.proofs.Lanes.{take-by_lanes, drop-by_lanes}
use Rattle.p3_matrix.proofs.packs.dit_on_packs.Goals as goal

-- One more pack of both rows. What is in it is still what the rows held at first (`next_pack`), and the multiples are
-- the products of the same places of the second row and of the twiddles. So the pack's sums and differences are those of
-- the whole rows at its places, and the rows are done up to its end (`pack_done`).
pub loop-at-preserved : goal.loop-at-preserved
loop-at-preserved g c =
    let f = g.F.Valued in
    let v = f.value in
    let l = c.loop-at in
    let w = c.WIDTH-width.result in
    let k = l.at + w - l.at in
    let xs = map v c.args.row_1.now in
    let ys = map v c.args.row_2.now in
    let ts = map v c.args.twiddles.now in
    let ms = by_lanes f.ring.mul ys ts in
    let sizes =
    pack_sizes l.at w (length c.args.row_1.now) (length xs) (pack_within l.at l.invariant.left.0 w _
    (length c.args.row_1.now) c.loop-at-test.true l.auto.row_1 l.invariant.left.1) (length-map c.args.row_1.now v) in
    let turned : length ys ≡ length ts = length-map c.args.row_2.now v ∙ sym c.requires.equal ∙ c.requires.twiddles ∙ sym (length-map c.args.twiddles.now v) in
    let long : length xs ≡ length ms =
    sym (products_long v f.ring.mul c.args.row_1.now c.args.row_2.now c.args.twiddles.now c.requires.equal
    c.requires.twiddles) in
    let part_1 = next_pack f.ring.add v l.at xs ms xs l.row_1 k sizes.0 long l.invariant.near in
    let part_2 = next_pack (minus f.ring) v l.at xs ms ys l.row_2 k sizes.0 long l.invariant.far in
    let part_t : map v (take k (drop l.at c.args.twiddles.now)) ≡ take k (drop l.at ts) =
    sym (take-map v k (drop l.at c.args.twiddles.now)) ∙ ap (take k) (sym (drop-map v l.at c.args.twiddles.now)) in
    let part_m : by_lanes f.ring.mul (take k (drop l.at ys)) (take k (drop l.at ts)) ≡ take k (drop l.at ms) =
    sym (ap (take k) (drop-by_lanes f.ring.mul l.at ys ts turned) ∙ take-by_lanes f.ring.mul k (drop l.at ys) (drop l.at ts)) in
    let multiples = ap₂ (by_lanes f.ring.mul) part_2 part_t ∙ part_m in
    record {
      width = l.invariant.width;
      left = pack_fits l.at l.invariant.left.0 w (length c.args.row_1.now) (subst (λ n. l.at < n) l.auto.row_1 c.loop-at-test.true) l.invariant.left.1;
      near =
          pack_done f.ring.add v l.at xs ms xs l.row_1 k (l.at + w) c.dit_on_pack.new.part_1 sizes.1.0 long sizes.1.1
          l.invariant.near (c.dit_on_pack.ensures.near ∙ ap₂ (by_lanes f.ring.add) part_1 multiples);
      far =
          pack_done (minus f.ring) v l.at xs ms ys l.row_2 k (l.at + w) c.dit_on_pack.new.part_2 sizes.1.0 long
          sizes.1.1 l.invariant.far (c.dit_on_pack.ensures.far ∙ ap₂ (by_lanes (minus f.ring)) part_1 multiples);
      count = omega (arith, l.invariant.count, c.dit_on_pack.ensures.count, c.WIDTH-width.ensures);
    }

pub returns-clause-near : goal.returns-clause-near
returns-clause-near g c =
    let f = g.F.Valued in
    let l = c.loop-at in
    let xs = c.args.row_1.now in
    let wide : length (map f.value xs) ≡ length xs = length-map xs f.value in
    let long = sym (products_long f.value f.ring.mul xs c.args.row_2.now c.args.twiddles.now c.requires.equal c.requires.twiddles) in
    l.invariant.near
    ∙ rows_done_all f.ring.add l.at (map f.value xs) _ (map f.value xs)
    (omega (arith, c.loop-at-test.false, l.auto.row_1, l.invariant.left.1, wide)) long refl

pub returns-clause-far : goal.returns-clause-far
returns-clause-far g c =
    let f = g.F.Valued in
    let l = c.loop-at in
    let xs = c.args.row_1.now in
    let ys = c.args.row_2.now in
    let wide : length (map f.value xs) ≡ length xs = length-map xs f.value in
    let long = sym (products_long f.value f.ring.mul xs ys c.args.twiddles.now c.requires.equal c.requires.twiddles) in
    l.invariant.far
    ∙ rows_done_all (minus f.ring) l.at (map f.value xs) _ (map f.value ys)
    (omega (arith, c.loop-at-test.false, l.auto.row_1, l.invariant.left.1, wide)) long
    (wide ∙ c.requires.equal ∙ sym (length-map ys f.value))

pub overflow_add-at : goal.overflow_add-at
overflow_add-at g c = record {
  fits =
      lt_of_le_of_lt (pack_within c.loop-at.at c.loop-at.invariant.left.0 c.WIDTH-width.result _
      (length c.args.row_1.now) c.loop-at-test.true c.loop-at.auto.row_1 c.loop-at.invariant.left.1)
      c.well_formed.1.0.0;
}

pub overflow_add-at-in-loop-at : goal.overflow_add-at-in-loop-at
overflow_add-at-in-loop-at g c = record {
  fits =
      lt_of_le_of_lt (pack_within c.loop-at.at c.loop-at.invariant.left.0 c.WIDTH-width.result _
      (length c.args.row_1.now) c.loop-at-test.true c.loop-at.auto.row_1 c.loop-at.invariant.left.1)
      c.well_formed.1.0.0;
}

pub overflow_add-at-in-loop-at-2 : goal.overflow_add-at-in-loop-at-2
overflow_add-at-in-loop-at-2 g c = record {
  fits =
      lt_of_le_of_lt (pack_within c.loop-at.at c.loop-at.invariant.left.0 c.WIDTH-width.result _
      (length c.args.row_1.now) c.loop-at-test.true c.loop-at.auto.row_1 c.loop-at.invariant.left.1)
      c.well_formed.1.0.0;
}

pub overflow_add-at-in-loop-at-3 : goal.overflow_add-at-in-loop-at-3
overflow_add-at-in-loop-at-3 g c = record {
  fits =
      lt_of_le_of_lt (pack_within c.loop-at.at c.loop-at.invariant.left.0 c.WIDTH-width.result _
      (length c.args.row_1.now) c.loop-at-test.true c.loop-at.auto.row_1 c.loop-at.invariant.left.1)
      c.well_formed.1.0.0;
}

pub slice_bounds-dit_on_pack-end : goal.slice_bounds-dit_on_pack-end
slice_bounds-dit_on_pack-end g c =
    subst (λ n. c.loop-at.at + c.WIDTH-width.result ≤ n) c.requires.twiddles (pack_within c.loop-at.at
    c.loop-at.invariant.left.0 c.WIDTH-width.result _ (length c.args.row_1.now) c.loop-at-test.true
    c.loop-at.auto.row_1 c.loop-at.invariant.left.1)

pub slice_bounds-dit_on_pack-end-in-loop-at : goal.slice_bounds-dit_on_pack-end-in-loop-at
slice_bounds-dit_on_pack-end-in-loop-at g c =
    subst (λ n. c.loop-at.at + c.WIDTH-width.result ≤ n) (sym c.loop-at.auto.row_1) (pack_within c.loop-at.at
    c.loop-at.invariant.left.0 c.WIDTH-width.result _ (length c.args.row_1.now) c.loop-at-test.true
    c.loop-at.auto.row_1 c.loop-at.invariant.left.1)

pub slice_bounds-dit_on_pack-end-in-loop-at-2 : goal.slice_bounds-dit_on_pack-end-in-loop-at-2
slice_bounds-dit_on_pack-end-in-loop-at-2 g c =
    subst (λ n. c.loop-at.at + c.WIDTH-width.result ≤ n) (c.requires.equal ∙ sym c.loop-at.auto.row_2) (pack_within
    c.loop-at.at c.loop-at.invariant.left.0 c.WIDTH-width.result _ (length c.args.row_1.now) c.loop-at-test.true
    c.loop-at.auto.row_1 c.loop-at.invariant.left.1)
