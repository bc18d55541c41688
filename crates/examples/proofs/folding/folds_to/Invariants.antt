use Rattle.std.proofs.Common.{ℕ, ◌<◌, get_or}
use Rattle.examples.specs.Foldings.{IsFoldedPair}
use Rattle.examples.proofs.folding.folds_to.Given as goal

abbrev pub invariant-loop-j : goal.invariant-loop-j
invariant-loop-j g l =
    let f = g.F.Valued in
    (j : ℕ) → j < l.j
    → IsFoldedPair f.ring (f.value l.beta) (f.value l.x) (f.value (get_or l.near j f.zero))
    (f.value (get_or l.far j f.zero)) (f.value (get_or l.folded j f.zero))
