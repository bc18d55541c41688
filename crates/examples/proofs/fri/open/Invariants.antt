use Rattle.std.proofs.Common.{◌≡◌, ℕ, suc, ◌+◌, ◌-◌, ◌*◌, ◌/◌, ◌^◌, ◌<◌, ◌≤◌, get_or, length}
use Rattle.std.specs.Prelude.{vec_capacity}
use Rattle.p3_matrix.specs.Cosets.{values_of}
use Rattle.p3_matrix.specs.RowMajor.{rows_from}
use Rattle.examples.specs.Fri.{FoldsTo, IsLayer, IsOpened}
use Rattle.examples.proofs.fri.open.Given as goal

abbrev pub invariant-loop-l : goal.invariant-loop-l
invariant-loop-l g l =
    let f = g.F.Valued in
    let hash = g.H.RowHash in
    let gen = λ (n : ℕ). f.value (g.F.TwoAdicField.generator n) in
    record {
      long : length l.openings.items ≡ l.l;
      room : length l.layers ≤ vec_capacity l.openings;
      pairs : (q : ℕ) (y : _) (o : _) → q < l.l → (get_or l.openings.items q o).pair ≡ rows_from (get_or l.layers q y).codeword (2 * (l.index / 2 ^ q)) 2;
      entries : (q : ℕ) (y : _) (o : _) (r j : ℕ) → q < l.l → r < 2 → j < (get_or l.layers q y).codeword.width
          → (values_of f (get_or l.openings.items q o).pair).entry r j ≡ (values_of f (get_or l.layers q y).codeword).entry (2 * (l.index / 2 ^ q) + r) j;
      opened : (q : ℕ) (y : _) (o : _) → q < l.l → (h : _) (s beta : f.Element) (next : _) (d : _)
          → IsLayer f gen hash.worth (hash.of_pair h) (hash.of_row h) (l.log_height - suc q) s beta
          (get_or l.layers q y).codeword next (get_or l.layers q y).nodes.items
          → IsOpened hash.worth (hash.of_pair h) (hash.of_row h) (l.log_height - suc q) (l.index / 2 ^ q) (get_or l.layers q y).codeword.width
          (hash.worth (get_or (get_or l.layers q y).nodes.items 1 d)) (get_or l.openings.items q o).pair (get_or l.openings.items q o).path.items;
      folds : (q : ℕ) (y : _) (o : _) → q < l.l → (h : _) (s beta : f.Element) (next : _)
          → IsLayer f gen hash.worth (hash.of_pair h) (hash.of_row h) (l.log_height - suc q) s beta
          (get_or l.layers q y).codeword next (get_or l.layers q y).nodes.items
          → FoldsTo f gen (l.log_height - suc q) s beta (l.index / 2 ^ q)
          (values_of f (get_or l.openings.items q o).pair) ((values_of f next).entry (l.index / 2 ^ q));
    }
