use Rattle.std.proofs.Common.{◌≡◌, map, drop}
use Rattle.examples.specs.MerkleTrees.{climbed}
use Rattle.examples.proofs.merkle_paths.climb.Given as goal

abbrev pub invariant-loop-sibling : goal.invariant-loop-sibling
invariant-loop-sibling g l =
    let hash = g.H.RowHash in
    climbed (hash.of_pair l.hash) l.node (hash.worth l.digest) (map hash.worth (drop l.sibling-index l.path))
    ≡ climbed (hash.of_pair l.hash) l.fn.node (hash.worth l.fn.digest) (map hash.worth l.path)
