use Rattle.std.proofs.Common.{◌≡◌, ℕ, ◌+◌, ◌<◌, get_or, length}
use Rattle.std.specs.Prelude.{vec_capacity}
use Rattle.p3_field.specs.Ring.{two}
use Rattle.examples.specs.Foldings.{IsFoldedPair}
use Rattle.examples.proofs.folding.push_folded_row.Given as goal

abbrev pub invariant-loop-j : goal.invariant-loop-j
invariant-loop-j g l =
    let f = g.F.Valued in
    record {
      long : length l.folded.items ≡ length l.fn.folded.items + l.j;
      room : vec_capacity l.folded ≡ vec_capacity l.fn.folded;
      before : (i : ℕ) → i < length l.fn.folded.items → get_or l.folded.items i f.zero ≡ get_or l.fn.folded.items i f.zero;
      row : (beta x : f.Element) → f.ring.mul (two f.ring) (f.ring.mul x (f.value l.factor)) ≡ beta → (j : ℕ) → j < l.j
          → IsFoldedPair f.ring beta x (f.value (get_or l.near j f.zero)) (f.value (get_or l.far j f.zero))
          (f.value (get_or l.folded.items (length l.fn.folded.items + j) f.zero));
    }
