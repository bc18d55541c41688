use Rattle.std.proofs.Common.{◌≡◌, ◌+◌, ◌-◌, length, map, drop, take, refl, sym, ap, ap₂, ◌∙◌, arith}
use Rattle.std.proofs.lemmas.List.{length-map, take-map, drop-map}
use Rattle.p3_field.specs.Lanes.{by_lanes}
use Rattle.p3_matrix.proofs.RowsByPacks.{next_pack, pack_done, pack_fits, rows_done_all, pack_within, pack_sizes}
use Rattle.p3_interpolation.proofs.rows.add_scaled_packs.Goals as goal

pub loop-at-preserved : goal.loop-at-preserved
loop-at-preserved g c =
    let f = g.F.Valued in
    let op = λ (x y : f.Element). f.ring.add x (f.ring.mul y (f.value c.args.factor)) in
    let l = c.loop-at in
    let w = c.WIDTH-width.result in
    let k = l.at + w - l.at in
    let row = c.args.row.now in
    let xs = map f.value c.args.sums.now in
    let ys = map f.value row in
    let inside = pack_within l.at l.invariant.left.0 w _ (length row) c.loop-at-test.true refl l.invariant.left.1 in
    let sizes = pack_sizes l.at w (length row) (length xs) inside (length-map c.args.sums.now f.value ∙ sym c.requires.equal) in
    let long : length xs ≡ length ys = length-map c.args.sums.now f.value ∙ sym c.requires.equal ∙ sym (length-map row f.value) in
    let sums = next_pack op f.value l.at xs ys xs l.sums k sizes.0 long l.invariant.done in
    let part : map f.value (take k (drop l.at row)) ≡ take k (drop l.at ys) =
    sym (take-map f.value k (drop l.at row)) ∙ ap (take k) (sym (drop-map f.value l.at row)) in
    record {
      width = l.invariant.width;
      left = pack_fits l.at l.invariant.left.0 w (length row) c.loop-at-test.true l.invariant.left.1;
      done = pack_done op f.value l.at xs ys xs l.sums k (l.at + w) c.add_scaled_pack.new.sums sizes.1.0 long sizes.1.1 l.invariant.done
          (c.add_scaled_pack.ensures.sums ∙ ap₂ (by_lanes op) sums part);
      count = omega (arith, l.invariant.count, c.add_scaled_pack.ensures.count, c.WIDTH-width.ensures);
    }

pub returns-clause-sums : goal.returns-clause-sums
returns-clause-sums g c =
    let f = g.F.Valued in
    let l = c.loop-at in
    let row = c.args.row.now in
    let xs = map f.value c.args.sums.now in
    let long : length xs ≡ length (map f.value row) = length-map c.args.sums.now f.value ∙ sym c.requires.equal ∙ sym (length-map row f.value) in
    let all : l.at ≡ length xs = omega (arith, length-map c.args.sums.now f.value, c.requires.equal, c.loop-at-test.false, l.invariant.left.1) in
    l.invariant.done ∙ rows_done_all (λ x y. f.ring.add x (f.ring.mul y (f.value c.args.factor))) l.at xs (map f.value row) xs all long refl
