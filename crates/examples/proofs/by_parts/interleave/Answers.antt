use Rattle.std.proofs.Common.{◌≡◌, ◌+◌, ◌*◌, ◌/◌, ◌%◌, ◌<◌, ◌++◌, get_or, length, ap, sym, ◌∙◌, subst, arith}
use Rattle.std.proofs.lemmas.List.{get_or_read}
use Rattle.std.proofs.lemmas.Nat.{div_below, mod_below}
use Rattle.p3_matrix.specs.Cosets.{values_of}
use Rattle.p3_matrix.specs.RowMajor.{height}
use Rattle.p3_matrix.proofs.RowMajor.{whole_rows}
use Rattle.p3_dft.specs.Parts.{IsInterleaved}
use Rattle.examples.proofs.Parts.{interleaved, one_more_part, row_long}
use Rattle.examples.proofs.Refusals.{told_by_growth}
use Rattle.examples.proofs.by_parts.interleave.Goals as goal

pub returns-in_err-values-clause-refused : goal.returns-in_err-values-clause-refused
returns-in_err-values-clause-refused g c = told_by_growth c.from_residual.result _ _ _ c.from_residual.ensures c.in_err-values.ensures.room

pub row-requires : goal.row-requires
row-requires g c =
    let parts = c.args.parts.now in
    let n = length parts in
    let i = c.loop-t.t % n in
    let which : i < n = mod_below c.loop-t.t n c.requires.some in
    let within : c.loop-t.t / n < c.args.rows = div_below c.loop-t.t n c.args.rows c.requires.some (omega (arith, c.loop-t-test.true)) in
    let read = get_or_read parts i _ which c.index-parts-t.is c.index-parts-t.result in
    omega (arith, within, ap (λ x. height x) read, (c.requires.shapes i c.index-parts-t.result which).0)

pub returns-in_err-extend_from_slice-clause-refused : goal.returns-in_err-extend_from_slice-clause-refused
returns-in_err-extend_from_slice-clause-refused g c =
    let told = c.from_residual-in_err-extend_from_slice in
    told_by_growth told.result _ _ _ told.ensures c.in_err-extend_from_slice.ensures.room

pub loop-t-preserved : goal.loop-t-preserved
loop-t-preserved g c =
    let f = g.F.Valued in
    let before = c.loop-t.invariant in
    let parts = c.args.parts.now in
    let n = length parts in
    let w = c.args.width in
    let t = c.loop-t.t in
    let m = c.index-parts-t.result in
    let which : t % n < n = mod_below t n c.requires.some in
    let within : t / n < c.args.rows = div_below t n c.args.rows c.requires.some (omega (arith, c.loop-t-test.true)) in
    let read = λ (d : _). get_or_read parts (t % n) _ which c.index-parts-t.is d in
    let high : t / n < height m = omega (arith, within, ap (λ x. height x) (read m), (c.requires.shapes (t % n) m which).0) in
    let wide : m.width ≡ w = ap (λ x. x.width) (read m) ∙ (c.requires.shapes (t % n) m which).1 in
    let row_size : length c.row.result.now ≡ w = ap length c.row.ensures ∙ row_long m (t / n) high ∙ wide in
    let had = c.loop-t.values.ok.0 in
    let has = c.extend_from_slice.new.items.ok.0 in
    record {
      long = omega (arith, before.long, c.in_ok-extend_from_slice.ensures.len, row_size, had, has);
      room = omega (arith, before.room, c.in_ok-extend_from_slice.ensures.capacity);
      rows = one_more_part parts m n w t c.loop-t.values.items c.extend_from_slice.new.items.items f.zero before.long
          (c.in_ok-extend_from_slice.ensures.items ∙ ap (λ xs. c.loop-t.values.items ++ xs) c.row.ensures) high wide (λ d. sym (read d)) before.rows;
    }

pub new-requires-clause-full : goal.new-requires-clause-full
new-requires-clause-full g c = (whole_rows _ c.loop-t.t c.args.width c.requires.wide c.loop-t.invariant.long).1

pub returns-clause-interleaved : goal.returns-clause-interleaved
returns-clause-interleaved g c = λ d.
    let f = g.F.Valued in
    let parts = c.args.parts.now in
    let n = length parts in
    let all : c.loop-t.t ≡ n * c.args.rows = omega (arith, c.loop-t-test.false, c.loop-t.auto.t-end) in
    subst (λ o. IsInterleaved n c.args.rows (λ i. values_of f (get_or parts i d)) (values_of f o)) (sym c.new.ensures)
    (interleaved f parts c.args.rows c.args.width c.loop-t.values.items d c.requires.wide (λ i below. c.requires.shapes i d below)
    (c.loop-t.invariant.long ∙ ap (λ k. k * c.args.width) all) (λ t j below inside. c.loop-t.invariant.rows t j d (omega (arith, below, all)) inside))
