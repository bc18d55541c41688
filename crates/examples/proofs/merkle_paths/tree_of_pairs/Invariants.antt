use Rattle.std.proofs.Common.{◌≡◌, ℕ, ◌+◌, ◌*◌, ◌<◌, get_or, length}
use Rattle.p3_matrix.specs.RowMajor.{rows_from}
use Rattle.examples.proofs.merkle_paths.tree_of_pairs.Given as goal

abbrev pub invariant-loop-i : goal.invariant-loop-i
invariant-loop-i g l =
    let hash = g.H.RowHash in
    record {
      long : length l.nodes.items ≡ 2 * l.leaves;
      last : (i : ℕ) (d : _) → i < l.i → hash.worth (get_or l.nodes.items (l.leaves + i) d) ≡ hash.of_row l.hash (rows_from l.values (2 * i) 2).values;
    }
