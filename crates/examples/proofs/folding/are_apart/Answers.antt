use Rattle.std.proofs.Common.{◌≡◌, ◌↔◌, Bool, true, false, IsTrue, sym, subst, ◌∙◌}
use Rattle.std.specs.Prelude.{MatchBool}
use Rattle.std.proofs.lemmas.Bool.{true≢false}
use Rattle.p3_field.specs.Ring.{IsInvertible}
use Rattle.examples.proofs.folding.are_apart.Goals as goal

-- what a boolean tells of x where it decides, told of what x is
decided : {E : Type 0} (P : E → Type 0) (b c : Bool) (x y : E) → c ≡ b → x ≡ y → MatchBool b (P x) (¬ (P x)) → IsTrue c ↔ P y
decided P true c x y is same holds = (λ _. subst P same holds, λ _. is)
decided P false c x y is same fails = (λ told. absurd (true≢false (sym told ∙ is)), λ holds. absurd (fails (subst P (sym same) holds)))

pub returns : goal.returns
returns g c =
    let f = g.F.Valued in
    decided (λ t. IsInvertible f.ring t) _ c.is_some.result (f.value c.sub.result) _ c.is_some.ensures
    (g.met.F.Field.sub_law _ _ _ c.sub.ensures) c.try_inverse.ensures.found
