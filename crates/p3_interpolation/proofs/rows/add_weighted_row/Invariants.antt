use Rattle.std.proofs.Common.{◌≡◌, ◌+◌, ◌*◌, get_or}
use Rattle.p3_matrix.proofs.Rows.Overwritten.{RowsDone}
use Rattle.p3_interpolation.proofs.rows.add_weighted_row.Given as goal

abbrev pub invariant-loop-t : goal.invariant-loop-t
invariant-loop-t g l =
    let f = g.F.Valued in
    record {
      rows : RowsDone f.zero l.width
          (λ t j y. f.value y
          ≡ f.ring.add (f.value (get_or l.fn.sums (t * l.width + j) f.zero))
          (f.ring.mul (f.value (get_or l.row j f.zero)) (f.value (get_or l.weights t f.zero))))
          l.fn.sums l.t l.sums;
      count : l.products ≡ l.fn.products + l.t * l.width;
    }
