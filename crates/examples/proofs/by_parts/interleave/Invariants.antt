use Rattle.std.proofs.Common.{◌≡◌, ℕ, ◌+◌, ◌*◌, ◌/◌, ◌%◌, ◌<◌, ◌≤◌, get_or, length}
use Rattle.std.specs.Prelude.{vec_capacity}
use Rattle.examples.proofs.by_parts.interleave.Given as goal

abbrev pub invariant-loop-t : goal.invariant-loop-t
invariant-loop-t g l =
    let f = g.F.Valued in
    let n = length l.parts in
    record {
      long : length l.values.items ≡ l.t * l.width;
      room : l.height * l.width ≤ vec_capacity l.values;
      rows : (t j : ℕ) (d : _) → t < l.t → j < l.width
          → get_or l.values.items (t * l.width + j) f.zero ≡ get_or (get_or l.parts (t % n) d).values (t / n * l.width + j) f.zero;
    }
