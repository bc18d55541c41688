use Rattle.std.proofs.Common.{ℕ, ◌/◌, Vec, append_assoc, ap, arith, length, rules}
use Rattle.std.specs.Fmt.{decimal}
use Rattle.std.specs.Global.{Global}
use Rattle.std.specs.Vec.{vec_items}
use Rattle.std.proofs.lemmas.Fmt.{decimal_digit, decimal_step}
use Rattle.dft_program.proofs.Lines.{digit_more, one_digit, written_size}
use Rattle.dft_program.proofs.Refused.{bytes_refused, refused_more}
use Rattle.dft_program.proofs.Told.{on_err}
use Rattle.dft_program.proofs.matrices.+push_number.Goals as goal
use Rattle.dft_program.proofs.matrices.+push_number.Goals.{then-number-ge10+in_ok-push_number, else-number-ge10}

pub returns-clause-number : goal.returns-clause-number
returns-clause-number t c = elim c.if-number-ge10.branch [
  | then-number-ge10+in_ok-push_number w ↦ search (rules, decimal_step c.args.number, append_assoc)
  | else-number-ge10 w ↦ search (rules, decimal_digit c.args.number)
]

pub returns-in_err-push_number-clause-refused : goal.returns-in_err-push_number-clause-refused
returns-in_err-push_number-clause-refused t c =
    on_err c.from_residual.result
    (refused_more _ _ (omega (arith, digit_more c.args.number c.if-number-ge10.true (search rules))) c.in_err-push_number.ensures.refused)

pub returns-clause-refused : goal.returns-clause-refused
returns-clause-refused t c = elim c.if-number-ge10.branch [
  | then-number-ge10+in_ok-push_number w ↦ bytes_refused c.push.result _ _
      (omega (
        arith,
        c.if-number-ge10.text.ok.0,
        ap (λ (v : Vec ℕ Global). length (vec_items v)) w.text-is,
        written_size (vec_items c.args.text.now) (vec_items w.push_number.new.text) (decimal (c.args.number / 10)) w.in_ok-push_number.ensures.number,
        digit_more c.args.number w.if-number-ge10.true (search rules),
      ))
      c.push.ensures.room
  | else-number-ge10 w ↦ bytes_refused c.push.result _ _
      (omega (
        arith,
        c.if-number-ge10.text.ok.0,
        ap (λ (v : Vec ℕ Global). length (vec_items v)) w.text-is,
        one_digit c.args.number w.if-number-ge10.false,
      ))
      c.push.ensures.room
]
