use Rattle.p3_matrix.proofs.Lemmas.{◌≡◌, ◌+◌, ◌-◌, ◌*◌, ℕ, length, map, rows_done}
use Rattle.p3_matrix.proofs.packs.scale_packs.Given as goal

abbrev pub invariant-loop-at : goal.invariant-loop-at
invariant-loop-at g l =
    let f = g.F.Valued in
    let xs = map f.value l.fn.values in
    record {
      width : l.width ≡ g.P.PackedField.WIDTH;
      left : (k : ℕ) × (l.at + k * l.width ≡ length l.fn.values);
      done : map f.value l.values ≡ rows_done (λ x y. f.ring.mul x (f.value l.t)) l.at xs xs xs;
      count : l.products ≡ l.fn.products + l.at;
    }

abbrev pub decreases-loop-at : goal.decreases-loop-at
decreases-loop-at g l = length l.initial.values - l.at
