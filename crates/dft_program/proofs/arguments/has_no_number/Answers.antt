use Rattle.std.proofs.Common.{not, is_some, ap, sym, ◌∙◌}
use Rattle.std.specs.String.{string_bytes}
use Rattle.dft_program.specs.Numbers.{number_of}
use Rattle.dft_program.proofs.Elements.{passes_at}
use Rattle.dft_program.proofs.arguments.has_no_number.Goals as goal

pub returns-then-is_none : goal.returns-then-is_none
returns-then-is_none c =
    passes_at (λ word. not (is_some (number_of word))) string_bytes c.args.words.now c.loop-word.word-index c.word-item.result c.loop-word-test.true
    (ap (λ word. not (is_some (number_of (string_bytes word)))) (sym c.word-item.is)
    ∙ ap (λ bytes. not (is_some (number_of bytes))) (sym c.as_str.ensures.value)
    ∙ ap (λ number. not (is_some number)) (sym c.number.ensures)
    ∙ ap not (c.is_none.ensures ∙ ap not c.if-is_none.true))
