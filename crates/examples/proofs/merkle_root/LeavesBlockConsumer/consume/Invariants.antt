use Rattle.std.proofs.Common.{◌≡◌}
use Rattle.p3_matrix.specs.RowMajor.{row}
use Rattle.examples.specs.MerkleTrees.{AreHashed}
use Rattle.examples.proofs.merkle_root.LeavesBlockConsumer.consume.Given as goal

abbrev pub invariant-loop-r : goal.invariant-loop-r
invariant-loop-r g l =
    (l.self.hash ≡ l.fn.self.hash)
    × AreHashed g.H.RowHash.worth (λ r. g.H.RowHash.of_row l.fn.self.hash.now (row l.fn.block r)) l.start l.r l.fn.self.digests.items l.self.digests.items
