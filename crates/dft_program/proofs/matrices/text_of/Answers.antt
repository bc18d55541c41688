use Rattle.std.proofs.Common.{◌<◌, ◌≤◌, ◌++◌, [], ℕ, length, map, take, ap, sym, ◌∙◌, arith}
use Rattle.std.proofs.lemmas.List.{take_all}
use Rattle.std.proofs.lemmas.List.FromFn.{length-map-range_with_len, get_or-map-range_with_len}
use Rattle.p3_matrix.specs.RowMajor.{height, row, rows}
use Rattle.dft_program.specs.Text.{line_of_numbers, text_of_rows}
use Rattle.dft_program.proofs.Lines.{text-more, text_part}
use Rattle.dft_program.proofs.Refused.{refused_more}
use Rattle.dft_program.proofs.Told.{on_err}
use Rattle.dft_program.proofs.matrices.text_of.Goals as goal

pub loop-i-preserved : goal.loop-i-preserved
loop-i-preserved g c =
    let number : g.row.F.Denot → ℕ = λ x. g.F.Valued.number (g.F.Valued.value x) in
    let m = c.args.matrix.now in
    let below : c.loop-i.i < height m = omega (arith, c.height-i-end.ensures.height) in
    let within : c.loop-i.i < length (rows m) = omega (arith, below, length-map-range_with_len (row m) 0 (height m)) in
    c.in_ok-push_line.ensures.line
    ∙ ap (λ text. text ++ line_of_numbers (map number c.row.result.now)) c.loop-i.invariant
    ∙ ap (λ xs. text_of_rows (map (map number) (take c.loop-i.i (rows m))) ++ line_of_numbers (map number xs))
    (c.row.ensures ∙ sym (get_or-map-range_with_len (row m) 0 (height m) c.loop-i.i c.loop-i.i [] below (omega arith)))
    ∙ sym (text-more (map number) (rows m) c.loop-i.i [] within)

pub returns-clause-text : goal.returns-clause-text
returns-clause-text g c =
    let m = c.args.matrix.now in
    let end : length (rows m) ≤ c.loop-i.i = omega (arith, length-map-range_with_len (row m) 0 (height m), c.height-i-end.ensures.height) in
    c.loop-i.invariant ∙ ap (λ xs. text_of_rows (map (map (λ x. g.F.Valued.number (g.F.Valued.value x))) xs)) (take_all c.loop-i.i (rows m) end)

pub returns-in_err-push_line-clause-refused : goal.returns-in_err-push_line-clause-refused
returns-in_err-push_line-clause-refused g c =
    let number : g.row.F.Denot → ℕ = λ x. g.F.Valued.number (g.F.Valued.value x) in
    let m = c.args.matrix.now in
    let below : c.loop-i.i < height m = omega (arith, c.height-i-end.ensures.height) in
    let within : c.loop-i.i < length (rows m) = omega (arith, below, length-map-range_with_len (row m) 0 (height m)) in
    let line = ap (λ xs. length (line_of_numbers (map number xs)))
    (c.row.ensures ∙ sym (get_or-map-range_with_len (row m) 0 (height m) c.loop-i.i c.loop-i.i [] below (omega arith))) in
    on_err c.from_residual.result
    (refused_more _ _ (omega (arith, ap length c.loop-i.invariant, text_part (map number) (rows m) c.loop-i.i [] within, line))
    c.in_err-push_line.ensures.refused)
