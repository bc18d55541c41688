use Rattle.std.proofs.Common.{◌≡◌, ℕ, ◌-◌, List, Result, ap, drop, length, map, rules, subst, sym, take, ◌∙◌}
use Rattle.std.proofs.lemmas.List.{places, take_all}
use Rattle.std.specs.List.{drop-map}
use Rattle.std.specs.String.{string_bytes}
use Rattle.dft_program.specs.declared.fault.Fault.{Fault}
use Rattle.dft_program.specs.declared.program.Request.{Request}
use Rattle.dft_program.specs.Outcome.{FaultOr, Gives, IsOutcomeIn}
use Rattle.dft_program.proofs.program.answer.Goals as goal

pub returns : goal.returns
returns c =
    let words = c.args.words.now in
    let all : take (length words - 3) (drop 3 words) ≡ drop 3 words = take_all (length words - 3) (drop 3 words) (search (rules, places)) in
    let given = c.in_ok-request.request in
    subst (λ (r : Result Request Fault). Gives c.answer_in_field.result
    (FaultOr r (λ request. IsOutcomeIn request.field request.operation (drop 3 (map string_bytes words))))) c.in_ok-request.ensures.exact
    (subst (λ (behind : List (List ℕ)). Gives c.answer_in_field.result (IsOutcomeIn given.field given.operation behind))
    (ap (map string_bytes) all ∙ sym (drop-map string_bytes 3 words)) c.answer_in_field.ensures)
