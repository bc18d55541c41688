use Rattle.p3_networks.proofs.Lemmas.{◌≡◌, ℕ, ◌+◌, ◌*◌, get_or, power, RowsDone}
use Rattle.p3_networks.proofs.shifts.shift_columns.Given as goal

abbrev pub invariant-loop-i : goal.invariant-loop-i
invariant-loop-i g l =
    let field = g.F.Valued in
    let own = λ (j : ℕ). field.ring.mul (field.value l.fn.shift) (power field.ring (field.value l.fn.step) j) in
    record {
      first : field.value l.first ≡ power field.ring (field.value l.fn.shift) l.i;
      base : field.value l.base ≡ power field.ring (field.value l.fn.step) l.i;
      values : RowsDone field.zero l.fn.width
          (λ i j y. field.value y ≡ field.ring.mul (field.value (get_or l.fn.values (i * l.fn.width + j) field.zero)) (power field.ring (own j) i))
          l.fn.values l.i l.values;
      count : l.products ≡ l.fn.products + l.i * l.fn.width;
    }
