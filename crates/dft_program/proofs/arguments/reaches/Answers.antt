use Rattle.std.proofs.Common.{nat_le, ap, sym, ◌∙◌, le-leb}
use Rattle.std.specs.String.{string_bytes}
use Rattle.dft_program.specs.Arguments.{number_or_zero}
use Rattle.dft_program.proofs.Elements.{passes_at}
use Rattle.dft_program.proofs.arguments.reaches.Goals as goal

pub returns-then-modulus-number_or_zero : goal.returns-then-modulus-number_or_zero
returns-then-modulus-number_or_zero c =
    passes_at (λ n. nat_le c.args.modulus n) (λ word. number_or_zero (string_bytes word)) c.args.words.now
    c.loop-word.word-index c.word-item.result c.loop-word-test.true
    (ap (λ word. nat_le c.args.modulus (number_or_zero (string_bytes word))) (sym c.word-item.is)
    ∙ ap (λ bytes. nat_le c.args.modulus (number_or_zero bytes)) (sym c.as_str.ensures.value)
    ∙ ap (λ n. nat_le c.args.modulus n) (sym c.number_or_zero.ensures)
    ∙ le-leb _ _ c.if-modulus-number_or_zero.true)
