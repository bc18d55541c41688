use Rattle.std.proofs.Common.{◌≡◌, ℕ, ◌+◌, ◌*◌, ◌<◌, get_or}
use Rattle.p3_matrix.specs.Polynomials.{sum}
use Rattle.p3_interpolation.proofs.rows.add_weighted_rows.Given as goal

abbrev pub invariant-loop-i : goal.invariant-loop-i
invariant-loop-i g l =
    let f = g.F.Valued in
    record {
      sums : (t j : ℕ) → t < l.columns → j < l.width → f.value (get_or l.sums (t * l.width + j) f.zero)
          ≡ sum f.ring l.i (λ q. f.ring.mul (f.value (get_or l.rows (q * l.width + j) f.zero)) (f.value (get_or l.weights (q * l.columns + t) f.zero)));
      count : l.products ≡ l.fn.products + l.i * (l.columns * l.width);
    }
