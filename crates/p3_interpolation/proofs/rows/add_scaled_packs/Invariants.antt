use Rattle.std.proofs.Common.{◌≡◌, ◌+◌, ◌-◌, ◌*◌, ℕ, length, map}
use Rattle.p3_matrix.proofs.RowsByPacks.{rows_done}
use Rattle.p3_interpolation.proofs.rows.add_scaled_packs.Given as goal

abbrev pub invariant-loop-at : goal.invariant-loop-at
invariant-loop-at g l =
    let f = g.F.Valued in
    let xs = map f.value l.fn.sums in
    record {
      width : l.width ≡ g.P.PackedField.WIDTH;
      left : (k : ℕ) × (l.at + k * l.width ≡ length l.row);
      done : map f.value l.sums ≡ rows_done (λ x y. f.ring.add x (f.ring.mul y (f.value l.factor))) l.at xs (map f.value l.row) xs;
      count : l.products ≡ l.fn.products + l.at;
    }

abbrev pub decreases-loop-at : goal.decreases-loop-at
decreases-loop-at g l = length l.row - l.at
