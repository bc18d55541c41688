use Rattle.std.proofs.Common.{◌≡◌, ℕ, suc, ◌+◌, ◌*◌, ◌^◌, ◌<◌, ◌≤◌, List, ◌++◌, get_or, length, map}
use Rattle.std.specs.Prelude.{vec_capacity}
use Rattle.examples.specs.MerkleTrees.{AreNodes, climbed}
use Rattle.examples.proofs.merkle_paths.path_of.Given as goal

abbrev pub invariant-loop-level : goal.invariant-loop-level
invariant-loop-level g l =
    let hash = g.H.RowHash in
    record {
      long : length l.path.items ≡ l._level;
      room : l.log_leaves ≤ vec_capacity l.path;
      inside : l.node < 2 * 2 ^ l.log_leaves;
      place : (m : ℕ) → l._level + m ≡ l.log_leaves → (2 ^ m ≤ l.node) × (l.node < 2 ^ suc m);
      leads : (h : _) (digest : ℕ → hash.Worth) (d : _) (rest : List hash.Worth) → AreNodes hash.worth (hash.of_pair h) (2 ^ l.log_leaves) digest l.nodes
          → climbed (hash.of_pair h) l.node (hash.worth (get_or l.nodes l.node d)) rest ≡ hash.worth (get_or l.nodes 1 d)
          → climbed (hash.of_pair h) (2 ^ l.log_leaves + l.leaf) (digest l.leaf) (map hash.worth l.path.items ++ rest) ≡ hash.worth (get_or l.nodes 1 d);
    }
