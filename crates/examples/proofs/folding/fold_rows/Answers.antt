use Rattle.std.proofs.Common.{◌≡◌, ◌+◌, ◌*◌, ◌/◌, ◌<◌, get_or, length, refl, ap, sym, subst, ◌∙◌, arith}
use Rattle.std.proofs.lemmas.List.{get_or_read}
use Rattle.p3_field.specs.Ring.{two}
use Rattle.p3_matrix.specs.Cosets.{values_of}
use Rattle.p3_matrix.specs.RowMajor.{height}
use Rattle.p3_matrix.proofs.RowMajor.{whole_rows}
use Rattle.examples.specs.Foldings.{IsFoldedPair, far_row, near_row}
use Rattle.examples.proofs.FoldedValues.{one_more_row, pair_same, row_size, row_value}
use Rattle.examples.proofs.folding.fold_rows.Goals as goal

pub overflow_mul-half : goal.overflow_mul-half
overflow_mul-half g c =
    let w = c.args.values.now.width in
    omega (arith, c.requires.size, ap (λ v. c.args.half * v) c.width-width.ensures.width, ap (λ h. h * w) c.requires.pairs)

pub push_folded_row-requires-clause-rows : goal.push_folded_row-requires-clause-rows
push_folded_row-requires-clause-rows g c =
    let m = c.args.values.now in
    ap length c.row-in-loop-i.ensures ∙ row_size m _ c.width-width.ensures.whole (omega (arith, c.pair_rows-near.ensures.within.1, c.requires.pairs))
    ∙ sym (ap length c.row.ensures ∙ row_size m _ c.width-width.ensures.whole (omega (arith, c.pair_rows-near.ensures.within.0, c.requires.pairs)))

-- One folded row more. The rows before it stand. Entry j of the new row is the pair of the entries j of its two rows,
-- folded with the factor that was read.
pub loop-i-preserved : goal.loop-i-preserved
loop-i-preserved g c =
    let f = g.F.Valued in
    let m = c.args.values.now in
    let whole = c.width-width.ensures.whole in
    let before = c.loop-i.invariant in
    let old = c.loop-i.folded.items in
    let near_in : c.pair_rows-near.result.0 < height m = omega (arith, c.pair_rows-near.ensures.within.0, c.requires.pairs) in
    let far_in : c.pair_rows-near.result.1 < height m = omega (arith, c.pair_rows-near.ensures.within.1, c.requires.pairs) in
    let size : length c.row.result.now ≡ c.width-width.result = ap length c.row.ensures ∙ row_size m _ whole near_in ∙ sym c.width-width.ensures.width in
    let had = c.loop-i.folded.ok.0 in
    record {
      long = omega (arith, before.long, c.push_folded_row.ensures.long, had, c.push_folded_row.new.folded.ok.0, size);
      room = omega (arith, before.room, c.push_folded_row.ensures.room);
      done = λ k beta power x factors.
          one_more_row
          (λ i j v.
          IsFoldedPair f.ring beta (x i) ((values_of f m).entry (near_row c.args.layout k i) j)
          ((values_of f m).entry (far_row c.args.layout k i) j) (f.value v))
          old c.push_folded_row.new.folded.items f.zero c.loop-i.i c.width-width.result before.long (before.done k beta power x factors)
          (λ q below. c.push_folded_row.ensures.before q (omega (arith, below, had)))
          (λ j inside.
          let in_row : j < m.width = omega (arith, inside, c.width-width.ensures.width) in
          let read : f.value c.index-factors-i.result ≡ f.value (get_or c.args.factors.now c.loop-i.i f.zero) =
          ap f.value (get_or_read c.args.factors.now _ _ (omega (arith, c.loop-i-test.true, c.requires.factors)) c.index-factors-i.is f.zero) in
          pair_same f.ring beta refl
          (row_value f m _ j _ whole c.row.ensures near_in in_row ∙ ap (λ r. (values_of f m).entry r j) (c.pair_rows-near.ensures.near k power))
          (row_value f m _ j _ whole c.row-in-loop-i.ensures far_in in_row ∙ ap (λ r. (values_of f m).entry r j) (c.pair_rows-near.ensures.far k power))
          (ap (λ n. f.value (get_or c.push_folded_row.new.folded.items (n + j) f.zero)) (let e : c.loop-i.folded.len ≡ length old = omega (arith, had) in e))
          (c.push_folded_row.ensures.row beta (x c.loop-i.i)
          (ap (λ y. f.ring.mul (two f.ring) (f.ring.mul (x c.loop-i.i) y)) read ∙ factors c.loop-i.i c.loop-i-test.true) j (omega (arith, inside, size))));
    }

pub new-requires-clause-full : goal.new-requires-clause-full
new-requires-clause-full g c =
    (whole_rows _ c.loop-i.i c.width-width.result (omega (arith, c.width-width.ensures.whole.width, c.width-width.ensures.width)) c.loop-i.invariant.long).1

pub returns-clause-folded : goal.returns-clause-folded
returns-clause-folded g c =
    let f = g.F.Valued in
    let m = c.args.values.now in
    let all : c.loop-i.i ≡ c.args.half = omega (arith, c.loop-i-test.false, c.loop-i.auto.i-end) in (
      ap (λ o. length o.values / o.width) c.new.ensures
          ∙ (whole_rows _ c.loop-i.i c.width-width.result
          (omega (arith, c.width-width.ensures.whole.width, c.width-width.ensures.width)) c.loop-i.invariant.long).0
          ∙ all,
      ap (λ o. o.width) c.new.ensures ∙ c.width-width.ensures.width,
      λ k beta power x factors i j below inside.
          subst (λ o. IsFoldedPair f.ring beta (x i) ((values_of f m).entry (near_row c.args.layout k i) j)
          ((values_of f m).entry (far_row c.args.layout k i) j)
          (f.value (get_or o.values (i * o.width + j) f.zero)))
          (sym c.new.ensures)
          (c.loop-i.invariant.done k beta power x factors i j (omega (arith, below, all)) (omega (arith, inside, c.width-width.ensures.width))),
    )
