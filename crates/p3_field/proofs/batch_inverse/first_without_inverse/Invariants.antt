use Rattle.p3_field.proofs.Lemmas.{ℕ, ◌≡◌, ◌<◌, get_or, IsInvertible, first_product}
use Rattle.p3_field.proofs.batch_inverse.first_without_inverse.Given as goal

abbrev pub invariant-loop-i : goal.invariant-loop-i
invariant-loop-i g l = g.F.Valued.value l.product ≡ first_product g.F.Valued.ring (λ j. g.F.Valued.value (get_or l.x j g.F.Valued.zero)) l.i

abbrev pub invariant-loop-i-2 : goal.invariant-loop-i-2
invariant-loop-i-2 g l = (j : ℕ) → j < l.i → IsInvertible g.F.Valued.ring (g.F.Valued.value (get_or l.x j g.F.Valued.zero))
