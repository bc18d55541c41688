use Rattle.std.proofs.Common.{ℕ, suc, ◌-◌, ◌/◌, ◌^◌, ◌<◌, get_or}
use Rattle.examples.specs.Fri.{IsOpened}
use Rattle.examples.proofs.fri.are_opened.Given as goal

abbrev pub invariant-loop-l : goal.invariant-loop-l
invariant-loop-l g l =
    let hash = g.H.RowHash in
    (q : ℕ) (o : _) (d : _) → q < l.l
    → IsOpened hash.worth (hash.of_pair l.hash) (hash.of_row l.hash) (l.commitment.log_height - suc q) (l.index / 2 ^ q) l.commitment.last.width
    (hash.worth (get_or l.commitment.roots.items q d)) (get_or l.openings q o).pair (get_or l.openings q o).path.items
