use Rattle.std.proofs.Common.{get_or, ◌≡◌, ◌+◌, ◌*◌, ◌-◌, ◌≤◌, length, take, drop, refl, sym, ap, ap₂, ◌∙◌, arith, add-one, suc-mul, subst}
use Rattle.std.proofs.lemmas.List.{get_or_read}
use Rattle.p3_networks.proofs.Layers.Halves.{block_room}
use Rattle.p3_matrix.proofs.Rows.Overwritten.{lane_at, part_at, part_size, rows-none, part-more}
use Rattle.p3_interpolation.proofs.rows.add_weighted_row.Goals as goal

pub loop-t-init : goal.loop-t-init
loop-t-init g c = record { rows = rows-none g.F.Valued.zero _ _ _; count = omega arith }

pub loop-t-preserved : goal.loop-t-preserved
loop-t-preserved g c =
    let f = g.F.Valued in
    let l = c.loop-t in
    let t = l.t in
    let w = c.args.width in
    let m : (t * w + w) - t * w ≡ w = omega arith in
    let rise : (t + 1) * w ≡ t * w + w = rw add-one (suc-mul t w) in
    let room : t * w + w ≤ length l.sums = block_room t c.args.columns w _ c.loop-t-test.true (l.auto.sums ∙ c.requires.sums) in
    let part = take ((t * w + w) - t * w) (drop (t * w) l.sums) in
    let size : length part ≡ w = part_size l.sums (t * w) ((t * w + w) - t * w) (subst (λ n. t * w + n ≤ length l.sums) (sym m) room) ∙ m in
    let op = λ (x y : f.Element). f.ring.add x (f.ring.mul y (f.value c.index-weights-t.result)) in
    let factor = ap f.value (get_or_read c.args.weights.now t _ (omega (arith, c.loop-t-test.true, c.requires.weights)) c.index-weights-t.is f.zero) in
    record {
      rows = part-more f.zero w _ _ l.sums c.add_scaled.new.sums t w refl room (c.add_scaled.auto.sums ∙ size)
          (λ j inside.
          lane_at op f.value f.zero c.add_scaled.new.sums part c.args.row.now j (size ∙ sym c.requires.row)
          (omega (arith, inside, size)) c.add_scaled.ensures.sums
          ∙ ap₂ (λ x y. f.ring.add (f.value x) (f.ring.mul (f.value (get_or c.args.row.now j f.zero)) y))
          (part_at l.sums (t * w) ((t * w + w) - t * w) j f.zero (omega (arith, inside)) ∙ l.invariant.rows.rest (t * w + j) (omega arith)) factor)
          l.invariant.rows;
      count = omega (arith, rise, l.invariant.count, c.add_scaled.ensures.count, size);
    }

pub returns-clause-sums : goal.returns-clause-sums
returns-clause-sums g c = λ t j below inside. c.loop-t.invariant.rows.done t j (omega (arith, below, c.loop-t-test.false)) inside
