use Rattle.std.proofs.Common.{◌≡◌, ℕ, ◌+◌, ◌*◌, ◌<◌, ◌≤◌, get_or}
use Rattle.examples.proofs.merkle_paths.join_nodes.Given as goal

abbrev pub invariant-loop-done : goal.invariant-loop-done
invariant-loop-done g l =
    let hash = g.H.RowHash in
    record {
      below : (n : ℕ) (d : _) → l.leaves ≤ n → get_or l.nodes n d ≡ get_or l.fn.nodes n d;
      joined : (n : ℕ) (d : _) → l.leaves < n + l.done → n < l.leaves
          → hash.worth (get_or l.nodes n d) ≡ hash.of_pair l.hash (hash.worth (get_or l.nodes (2 * n) d)) (hash.worth (get_or l.nodes (2 * n + 1) d));
    }
