use Rattle.p3_networks.proofs.Lemmas.{◌≡◌, ◌+◌, ◌*◌, get_or, power, RowsDone}
use Rattle.p3_networks.proofs.shifts.shift_values.Given as goal

abbrev pub invariant-loop-i : goal.invariant-loop-i
invariant-loop-i g l =
    let field = g.F.Valued in
    record {
      factor : field.value l.power ≡ power field.ring (field.value l.fn.shift) l.i;
      values : RowsDone field.zero l.fn.width
          (λ i j y. field.value y
          ≡ field.ring.mul (field.value (get_or l.fn.values (i * l.fn.width + j) field.zero))
          (power field.ring (field.value l.fn.shift) i))
          l.fn.values l.i l.values;
      count : l.products ≡ l.fn.products + l.i * l.fn.width;
    }
