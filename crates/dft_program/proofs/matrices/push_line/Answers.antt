use Rattle.std.proofs.Common.{arith, map}
use Rattle.std.specs.Vec.{vec_items}
use Rattle.dft_program.specs.Text.{spaced}
use Rattle.dft_program.proofs.Lines.{line_size, written_size}
use Rattle.dft_program.proofs.Refused.{bytes_refused, refused_more}
use Rattle.dft_program.proofs.Told.{on_err}
use Rattle.dft_program.proofs.matrices.push_line.Goals as goal

pub returns-in_err-push_numbers-clause-refused : goal.returns-in_err-push_numbers-clause-refused
returns-in_err-push_numbers-clause-refused g c =
    let numbers = map (λ x. g.F.Valued.number (g.F.Valued.value x)) c.args.row.now in
    on_err c.from_residual.result (refused_more _ _ (omega (arith, line_size numbers)) c.in_err-push_numbers.ensures.refused)

pub returns-clause-refused : goal.returns-clause-refused
returns-clause-refused g c =
    let numbers = map (λ x. g.F.Valued.number (g.F.Valued.value x)) c.args.row.now in
    bytes_refused c.push.result _ _
    (omega (
      arith,
      c.push_numbers.new.text.ok.0,
      written_size (vec_items c.args.text.now) (vec_items c.push_numbers.new.text) (spaced numbers)
          c.in_ok-push_numbers.ensures.numbers,
      line_size numbers,
    ))
    c.push.ensures.room
