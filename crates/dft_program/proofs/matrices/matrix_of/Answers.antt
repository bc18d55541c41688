use Rattle.std.proofs.Common.{◌≡◌, length, take, ap, sym, ◌∙◌, arith}
use Rattle.std.proofs.lemmas.List.{length-map, take_all}
use Rattle.std.specs.String.{string_bytes}
use Rattle.dft_program.specs.Arguments.{number_or_zero}
use Rattle.dft_program.proofs.Elements.{all_below}
use Rattle.dft_program.proofs.Lines.{taken_size}
use Rattle.dft_program.proofs.Refused.{refused_by}
use Rattle.dft_program.proofs.matrices.matrix_of.Goals as goal

pub element_of-requires : goal.element_of-requires
element_of-requires g c =
    rw (c.number_or_zero-number.ensures, c.as_str.ensures.value, c.word-item.is)
    (all_below g.F.CanonicalField.ORDER_U64 (λ word. number_or_zero (string_bytes word)) c.args.words.now
    c.loop-word.word-index c.word-item.result c.loop-word-test.true c.requires.below)

pub new-requires-clause-full : goal.new-requires-clause-full
new-requires-clause-full g c =
    let same : length c.loop-word.values.items ≡ length c.args.words.now =
    sym (length-map c.loop-word.values.items (λ x. g.F.Valued.number (g.F.Valued.value x)))
    ∙ ap length c.loop-word.invariant
    ∙ length-map _ (λ word. number_or_zero (string_bytes word))
    ∙ ap length (take_all c.loop-word.word-index c.args.words.now c.loop-word-test.false) in
    rw same c.requires.full

pub returns-in_err-values-clause-refused : goal.returns-in_err-values-clause-refused
returns-in_err-values-clause-refused g c =
    refused_by c.from_residual.result _ _ _ c.requires.small.element (omega arith) c.in_err-values.ensures.room

pub returns-in_err-push-clause-refused : goal.returns-in_err-push-clause-refused
returns-in_err-push-clause-refused g c =
    let words = c.args.words.now in
    let many : length c.loop-word.values.items ≡ length (take c.loop-word.word-index words) =
    sym (length-map c.loop-word.values.items (λ x. g.F.Valued.number (g.F.Valued.value x)))
    ∙ ap length c.loop-word.invariant
    ∙ length-map _ (λ word. number_or_zero (string_bytes word)) in
    refused_by c.from_residual-in_err-push.result _ _ _ c.requires.small.element
    (omega (arith, c.loop-word.values.ok.0, many, taken_size words c.loop-word.word-index (omega (arith, c.loop-word-test.true)), c.loop-word-test.true))
    c.in_err-push.ensures.room
