use Rattle.std.proofs.Common.{◌≡◌, ◌↔◌, IsTrue, Bool, true, false, sym, ap₂, ◌∙◌, subst}
use Rattle.std.specs.Prelude.{MatchBool}
use Rattle.std.proofs.lemmas.Bool.{true≢false}
use Rattle.p3_field.specs.Ring.{IsInvertible, minus}
use Rattle.p3_interpolation.proofs.barycentric.is_off_coset.Goals as goal

decided : {E : Type 0} (P : E → Type 0) (b c : Bool) (x y : E) → c ≡ b → x ≡ y → MatchBool b (P x) (¬ (P x)) → IsTrue c ↔ P y
decided {E} P true c x y is same found = (λ _. subst P same found, λ _. is)
decided {E} P false c x y is same found = (λ told. absurd (true≢false (sym told ∙ is)), λ holds. absurd (found (subst P (sym same) holds)))

pub returns : goal.returns
returns g c =
    let f = g.F.Valued in
    decided (λ t. IsInvertible f.ring t) _ c.is_some.result (f.value c.sub-vanishing.result) _ c.is_some.ensures
    (g.met.F.Field.sub_law _ _ _ c.sub-vanishing.ensures ∙ ap₂ (minus f.ring) c.exp_u64.ensures c.exp_u64-2.ensures) c.try_inverse.ensures.found
