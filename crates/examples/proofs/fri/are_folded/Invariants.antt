use Rattle.std.proofs.Common.{◌≡◌, ℕ, suc, ◌-◌, ◌/◌, ◌%◌, ◌^◌, ◌<◌, get_or, length}
use Rattle.p3_field.specs.Ring.{power}
use Rattle.p3_matrix.specs.Cosets.{values_of}
use Rattle.examples.specs.Fri.{FoldsTo}
use Rattle.examples.proofs.fri.are_folded.Given as goal

abbrev pub invariant-loop-l : goal.invariant-loop-l
invariant-loop-l g l =
    let f = g.F.Valued in
    let known = l.commitment in
    let pair = λ (o : _) (q : ℕ). values_of f (get_or l.openings q o).pair in
    let folds = λ (q : ℕ). FoldsTo f (λ n. f.value (g.F.TwoAdicField.generator n)) (known.log_height - suc q) (power f.ring (f.value known.shift) (2 ^ q))
    (f.value (get_or known.challenges.items q f.zero)) (l.index / 2 ^ q) in
    (q : ℕ) (o : _) → q < l.l
    → (suc q < length l.openings → folds q (pair o q) ((pair o (suc q)).entry ((l.index / 2 ^ q) % 2)))
    × (suc q ≡ length l.openings → folds q (pair o q) ((values_of f known.last).entry (l.index / 2 ^ q)))
