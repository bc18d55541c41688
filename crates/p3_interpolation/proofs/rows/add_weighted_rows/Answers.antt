use Rattle.std.proofs.Common.{ℕ, get_or, ◌≡◌, ◌+◌, ◌*◌, ◌-◌, sym, ap₂, ◌∙◌, arith, add-one, suc-mul}
use Rattle.std.proofs.lemmas.Nat.{mul-add-lt}
use Rattle.p3_matrix.proofs.Rows.Overwritten.{part_at}
use Rattle.p3_interpolation.proofs.BarycentricFormula.{sum-none, sum-more}
use Rattle.p3_interpolation.proofs.rows.add_weighted_rows.Goals as goal

pub loop-i-init : goal.loop-i-init
loop-i-init g c =
    let f = g.F.Valued in
    record {
      sums =
          λ t j below inside. c.requires.zero (t * c.args.width + j)
          (omega (arith, mul-add-lt t c.args.width j c.args.columns below inside))
          ∙ sym (sum-none f.ring _);
      count = omega arith;
    }

pub loop-i-preserved : goal.loop-i-preserved
loop-i-preserved g c =
    let f = g.F.Valued in
    let l = c.loop-i in
    let i = l.i in
    let w = c.args.width in
    let n = c.args.columns in
    let rise : (i + 1) * (n * w) ≡ i * (n * w) + n * w = rw add-one (suc-mul i (n * w)) in
    record {
      sums = λ t j below inside.
          let term : ℕ → f.Element =
          λ q. f.ring.mul (f.value (get_or c.args.rows.now (q * w + j) f.zero))
          (f.value (get_or c.args.weights.now (q * n + t) f.zero)) in
          c.add_weighted_row.ensures.sums t j below inside
          ∙ ap₂ f.ring.add (l.invariant.sums t j below inside)
          (ap₂ (λ x y. f.ring.mul (f.value x) (f.value y)) (part_at c.args.rows.now (i * w) ((i * w + w) - i * w) j f.zero (omega (arith, inside)))
          (part_at c.args.weights.now (i * n) ((i * n + n) - i * n) t f.zero (omega (arith, below))))
          ∙ sym (sum-more f.ring i term);
      count = omega (arith, rise, l.invariant.count, c.add_weighted_row.ensures.count);
    }
