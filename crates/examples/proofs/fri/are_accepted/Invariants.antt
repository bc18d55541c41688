use Rattle.std.proofs.Common.{◌≡◌, ◌↔◌, ℕ, ◌-◌, ◌<◌, IsTrue, List, length, get_or}
use Rattle.std.specs.List.{FoldsTo}
use Rattle.examples.specs.Fri.{IsAcceptedQuery}
use Rattle.examples.proofs.fri.are_accepted.Given as goal

abbrev pub invariant-loop-q : goal.invariant-loop-q
invariant-loop-q g l =
    let f = g.F.Valued in
    let hash = g.H.RowHash in
    let known = l.commitment in
    let P = λ (k : ℕ) (openings : _).
    IsAcceptedQuery f (λ n. f.value (g.F.TwoAdicField.generator n)) hash.worth (hash.of_pair l.hash) (hash.of_row l.hash) known.log_height
    (f.value known.shift) (λ q. f.value (get_or known.challenges.items q f.zero)) known.roots.items known.last k openings in
    record {
      indexes : List ℕ;
      long : length indexes ≡ l.q;
      drawn : FoldsTo (λ t i u. g.T.QueryTranscript.draws_index t (known.log_height - 1) i u) l.fn.transcript indexes l.transcript;
      accepted : IsTrue l.accepted ↔ ((q : ℕ) (d : _) → q < l.q → P (get_or indexes q 0) (get_or l.queries q d).items);
    }
