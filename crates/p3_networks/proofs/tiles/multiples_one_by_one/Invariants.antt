use Rattle.p3_networks.proofs.Lemmas.{◌≡◌, ◌+◌, ◌*◌, get_or, power, RowsDone}
use Rattle.p3_networks.proofs.tiles.multiples_one_by_one.Given as goal

abbrev pub invariant-loop-t : goal.invariant-loop-t
invariant-loop-t g l =
    let field = g.F.Valued in
    record {
      factor : field.value l.factor ≡ field.ring.mul (field.value l.fn.first) (power field.ring (field.value l.fn.step) l.t);
      values : RowsDone field.zero l.width
          (λ t j y. field.value y
          ≡ field.ring.mul (field.value (get_or l.fn.row j field.zero))
          (field.ring.mul (field.value l.fn.first) (power field.ring (field.value l.fn.step) t)))
          l.fn.values l.t l.values;
      count : l.products ≡ l.fn.products + l.t * l.width;
    }
