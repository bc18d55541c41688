use Rattle.std.proofs.Common.{◌≡◌, ◌/◌, ℕ, length, map, Result, refl, sym, ap, ◌∙◌, subst}
use Rattle.std.proofs.lemmas.List.{length-map}
use Rattle.std.specs.String.{string_bytes}
use Rattle.std.specs.Vec.{vec_items}
use Rattle.p3_matrix.specs.RowMajor.{height, rows}
use Rattle.p3_dft.specs.Shapes.{FitsLde}
use Rattle.dft_program.specs.declared.fault.Fault.{Fault}
use Rattle.dft_program.specs.Arguments.{Arguments, number_or_zero, numbers_of}
use Rattle.dft_program.specs.NumberedFields.{numbered}
use Rattle.dft_program.specs.Outcome.{FaultOr, IsAnswered}
use Rattle.dft_program.specs.Text.{text_of_rows}
use Rattle.dft_program.proofs.RefusedAnswers.{engine_refused, gives_refused, matrix_refused, refused_in_text}
use Rattle.dft_program.proofs.ValuedJobs.{can_run, text_of_answer}
use Rattle.dft_program.proofs.program.answer_in.Goals as goal

pub answer_by-requires-clause-runnable : goal.answer_by-requires-clause-runnable
answer_by-requires-clause-runnable g c =
    let arguments = c.in_ok-arguments.arguments in
    let matrix = c.in_ok-matrix.matrix in
    let bits = g.F.TwoAdicField.TWO_ADICITY in
    let counted : length arguments.values.now ≡ length matrix.values =
    sym (length-map arguments.values.now (λ word. number_or_zero (string_bytes word)))
    ∙ ap length (sym c.in_ok-matrix.ensures.numbers)
    ∙ length-map matrix.values (λ x. g.F.Valued.number (g.F.Valued.value x)) in
    let wide : arguments.width ≡ matrix.width = sym c.in_ok-matrix.ensures.width in
    let fits : FitsLde bits (height matrix) matrix.width arguments.added_bits =
    subst (λ (w : ℕ). FitsLde bits (length matrix.values / w) w arguments.added_bits) wide
    (subst (λ (n : ℕ). FitsLde bits (n / arguments.width) arguments.width arguments.added_bits) counted c.in_ok-arguments.ensures.fits) in
    rw c.job_of-job.ensures
    (can_run g.F.Valued bits c.args.operation matrix arguments.added_bits c.element_of-shift.result fits
    (λ undoes. c.in_ok-arguments.ensures.invertible undoes c.element_of-shift.result c.element_of-shift.ensures))

pub returns : goal.returns
returns g c element named =
    let field = numbered g.F.Valued g.F.TwoAdicField.generator g.F.TwoAdicField.TWO_ADICITY g.F.CanonicalField.ORDER_U64 element in
    let arguments = c.in_ok-arguments.arguments in
    let text = vec_items c.in_ok-text_of.field-0 in
    subst (λ (read : Result Arguments Fault). FaultOr read (IsAnswered field c.args.operation)
    (record { status = 0; text = text })) (c.in_ok-arguments.ensures.exact element named) (
      refl,
      text_of_answer g.F.Valued g.F.TwoAdicField.generator g.F.TwoAdicField.TWO_ADICITY g.F.CanonicalField.ORDER_U64
          element (ap g.F.Valued.value (sym g.met.F.Field.same_zero) ∙ g.met.F.Field.zero_law)
          g.met.F.TwoAdicField.roots_law
          g.met.F.Field.number_law named g.met.F.CanonicalField.number_below_law c.args.operation
          (record { added_bits = arguments.added_bits; shift = arguments.shift; width = arguments.width; values = numbers_of arguments.values.now })
          c.in_ok-matrix.matrix c.in_ok-answer.answer c.element_of-shift.result text c.in_ok-matrix.ensures.width
          c.in_ok-matrix.ensures.numbers c.element_of-shift.ensures
          c.in_ok-text_of.ensures.whole (rw (sym c.job_of-job.ensures) c.in_ok-answer.ensures.answer) c.in_ok-text_of.ensures.text,
    )

pub returns-in_err-matrix : goal.returns-in_err-matrix
returns-in_err-matrix g c element named =
    let arguments = c.in_ok-arguments.arguments in
    let values = arguments.values.now in
    gives_refused c.from_residual-in_err-matrix.result _ c.from_residual-in_err-matrix.ensures
    (matrix_refused g.F.Valued g.F.TwoAdicField.generator g.F.TwoAdicField.TWO_ADICITY g.F.CanonicalField.ORDER_U64 element
    g.met.F.TwoAdicField.roots_law g.met.F.Field.number_law c.args.operation (map string_bytes c.args.words.now)
    (record { added_bits = arguments.added_bits; shift = arguments.shift; width = arguments.width; values = numbers_of values })
    (sym (c.in_ok-arguments.ensures.exact element named)) (length values)
    (length-map values (λ word. number_or_zero (string_bytes word)))
    c.in_ok-arguments.ensures.full c.in_err-matrix.ensures.refused)

pub returns-in_err-answer : goal.returns-in_err-answer
returns-in_err-answer g c element named =
    let arguments = c.in_ok-arguments.arguments in
    let values = arguments.values.now in
    gives_refused c.from_residual-in_err-answer.result _ c.from_residual-in_err-answer.ensures
    (engine_refused g.F.Valued g.F.TwoAdicField.generator g.F.TwoAdicField.TWO_ADICITY g.F.CanonicalField.ORDER_U64 element
    g.met.F.TwoAdicField.roots_law g.met.F.Field.number_law c.args.operation (map string_bytes c.args.words.now)
    (record { added_bits = arguments.added_bits; shift = arguments.shift; width = arguments.width; values = numbers_of values })
    (sym (c.in_ok-arguments.ensures.exact element named)) c.in_ok-matrix.matrix c.element_of-shift.result
    c.in_ok-matrix.ensures.width c.in_ok-matrix.ensures.numbers
    (rw (sym c.job_of-job.ensures) c.in_err-answer.ensures.refused))

pub returns-in_err-text_of : goal.returns-in_err-text_of
returns-in_err-text_of g c element named =
    let field = numbered g.F.Valued g.F.TwoAdicField.generator g.F.TwoAdicField.TWO_ADICITY g.F.CanonicalField.ORDER_U64 element in
    let arguments = c.in_ok-arguments.arguments in
    let asked : Arguments = record {
      added_bits = arguments.added_bits;
      shift = arguments.shift;
      width = arguments.width;
      values = numbers_of arguments.values.now;
    } in
    let text = text_of_rows (map (map (λ x. g.F.Valued.number (g.F.Valued.value x))) (rows c.in_ok-answer.answer)) in
    gives_refused c.from_residual-in_err-text_of.result _ c.from_residual-in_err-text_of.ensures
    (refused_in_text field g.met.F.TwoAdicField.roots_law g.met.F.Field.number_law c.args.operation
    (map string_bytes c.args.words.now) asked (sym (c.in_ok-arguments.ensures.exact element named)) text
    (text_of_answer g.F.Valued g.F.TwoAdicField.generator g.F.TwoAdicField.TWO_ADICITY g.F.CanonicalField.ORDER_U64
    element (ap g.F.Valued.value (sym g.met.F.Field.same_zero) ∙ g.met.F.Field.zero_law)
    g.met.F.TwoAdicField.roots_law
    g.met.F.Field.number_law named g.met.F.CanonicalField.number_below_law c.args.operation
    asked c.in_ok-matrix.matrix c.in_ok-answer.answer c.element_of-shift.result text c.in_ok-matrix.ensures.width
    c.in_ok-matrix.ensures.numbers c.element_of-shift.ensures
    c.in_err-text_of.ensures.whole (rw (sym c.job_of-job.ensures) c.in_ok-answer.ensures.answer) refl)
    c.in_err-text_of.ensures.refused)
