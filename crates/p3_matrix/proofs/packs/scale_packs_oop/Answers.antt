use Rattle.p3_matrix.proofs.Lemmas.{◌≡◌, ◌+◌, ◌-◌, length, map, drop, take, refl, sym, ap, ◌∙◌, arith, length-map, take-map, drop-map, by_lanes_of_left}
use Rattle.p3_matrix.proofs.Lemmas.{pack_done, pack_fits, pack_within, loop_ends, packs_done, pack_sizes}
use Rattle.p3_matrix.proofs.packs.scale_packs_oop.Goals as goal

pub loop-at-preserved : goal.loop-at-preserved
loop-at-preserved g c =
    let f = g.F.Valued in
    let v = f.value in
    let times = λ (x : f.Element). f.ring.mul x (v c.args.t) in
    let op = λ (x y : f.Element). times x in
    let l = c.loop-at in
    let w = c.WIDTH-width.result in
    let k = l.at + w - l.at in
    let from = c.args.from.now in
    let xs = map v from in
    let sizes =
    pack_sizes l.at w (length from) (length xs)
    (pack_within l.at l.invariant.left.0 w _ (length from) c.loop-at-test.true refl l.invariant.left.1)
    (length-map from v) in
    let part : map v (take k (drop l.at from)) ≡ take k (drop l.at xs) = sym (take-map v k (drop l.at from)) ∙ ap (take k) (sym (drop-map v l.at from)) in
    record {
      width = l.invariant.width;
      left = pack_fits l.at l.invariant.left.0 w (length from) c.loop-at-test.true l.invariant.left.1;
      done = pack_done op v l.at xs xs (map v c.args.to.now) l.to k (l.at + w) c.store.new.to sizes.1.0 refl sizes.1.1 l.invariant.done
          (c.store.ensures ∙ c.scaled-multiples.ensures.lanes ∙ ap (map times) (c.load.ensures ∙ part)
          ∙ sym (by_lanes_of_left times (take k (drop l.at xs)) (take k (drop l.at xs)) refl));
      count = omega (arith, l.invariant.count, c.scaled-multiples.ensures.count, c.WIDTH-width.ensures);
    }

pub returns-clause-values : goal.returns-clause-values
returns-clause-values g c =
    let f = g.F.Valued in
    let times = λ (x : f.Element). f.ring.mul x (f.value c.args.t) in
    let from = c.args.from.now in
    let end = loop_ends _ _ _ _ c.loop-at-test.false refl c.loop-at.invariant.left.1 in
    c.loop-at.invariant.done
    ∙ packs_done f.value (λ x y. times x) c.loop-at.at from from c.args.to.now end refl c.requires.equal
    ∙ by_lanes_of_left times (map f.value from) (map f.value from) refl
