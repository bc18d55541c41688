use Rattle.std.proofs.Common.{◌≡◌, get_or}
use Rattle.p3_matrix.specs.Polynomials.{sum}
use Rattle.examples.proofs.published.sum_of.Given as goal

abbrev pub invariant-loop-i : goal.invariant-loop-i
invariant-loop-i g l = g.F.Valued.value l.sum ≡ sum g.F.Valued.ring l.i (λ j. g.F.Valued.value (get_or l.fn.elements j g.F.Valued.zero))
