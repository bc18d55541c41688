use Rattle.std.proofs.Common.{◌≡◌, ℕ, ◌+◌, ◌*◌, ◌^◌, ◌<◌, ◌≤◌, get_or, length}
use Rattle.std.specs.Prelude.{vec_capacity}
use Rattle.p3_field.specs.Ring.{two}
use Rattle.p3_matrix.specs.Cosets.{values_of}
use Rattle.examples.specs.Foldings.{IsFoldedPair, far_row, near_row}
use Rattle.examples.proofs.folding.fold_rows.Given as goal

abbrev pub invariant-loop-i : goal.invariant-loop-i
invariant-loop-i g l =
    let f = g.F.Valued in
    record {
      long : length l.folded.items ≡ l.i * l.width;
      room : l.half * l.width ≤ vec_capacity l.folded;
      done : (k : ℕ) (beta : f.Element) → l.half ≡ 2 ^ k → (x : ℕ → f.Element)
          → ((i : ℕ) → i < l.half → f.ring.mul (two f.ring) (f.ring.mul (x i) (f.value (get_or l.factors i f.zero))) ≡ beta)
          → (i j : ℕ) → i < l.i → j < l.width
          → IsFoldedPair f.ring beta (x i) ((values_of f l.values).entry (near_row l.layout k i) j) ((values_of f l.values).entry (far_row l.layout k i) j)
          (f.value (get_or l.folded.items (i * l.width + j) f.zero));
    }
