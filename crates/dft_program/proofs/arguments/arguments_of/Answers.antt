use Rattle.std.proofs.Common.{◌≡◌, ◌-◌, ℕ, List, drop, length, map, take, refl, ap, ◌∙◌}
use Rattle.std.specs.String.{string_bytes}
use Rattle.dft_program.specs.declared.names.Operation.{Operation}
use Rattle.dft_program.specs.declared.names.Operation.TheVariants.{Dft, CosetDft, Idft, CosetIdft, Lde, CosetLde}
use Rattle.dft_program.specs.Arguments.{arguments_of, number_or_zero, numbers_of, settings}
use Rattle.dft_program.proofs.WordNumbers.{numbers_behind}
use Rattle.dft_program.proofs.arguments.arguments_of.Goals as goal

-- the values are behind the settings
behind : (operation : Operation) (numbers : List ℕ) → drop (settings operation) numbers ≡ (arguments_of operation numbers).values
behind Dft numbers = refl
behind CosetDft numbers = refl
behind Idft numbers = refl
behind CosetIdft numbers = refl
behind Lde numbers = refl
behind CosetLde numbers = refl

pub returns-clause-values : goal.returns-clause-values
returns-clause-values c =
    let words = c.args.words.now in
    ap (λ n. numbers_of (take (length words - n) (drop n words))) c.settings-behind.ensures
    ∙ numbers_behind (settings c.args.operation) words
    ∙ behind c.args.operation (map number_or_zero (map string_bytes words))
