use Rattle.p3_networks.proofs.Lemmas.{◌≡◌, ◌+◌, ◌*◌, ◌≤◌, get_or, RowsDone}
use Rattle.p3_networks.proofs.butterfly_layers.meet_halves.Given as goal

abbrev pub invariant-loop-t : goal.invariant-loop-t
invariant-loop-t g l =
    let field = g.F.Valued in
    let rule = g.R.Rule in
    let value = g.F.Valued.value in
    let zero = g.F.Valued.zero in
    let w = l.fn.width in
    record {
      near : RowsDone zero w (λ t j y. value y
          ≡ rule.near field.Element field.ring field.value l.fn.rule l.fn.block t
          (value (get_or l.fn.low (t * w + j) zero)) (value (get_or l.fn.high (t * w + j) zero))) l.fn.low l.t
          l.low;
      far : RowsDone zero w (λ t j y. value y
          ≡ rule.far field.Element field.ring field.value l.fn.rule l.fn.block t
          (value (get_or l.fn.low (t * w + j) zero)) (value (get_or l.fn.high (t * w + j) zero))) l.fn.high l.t
          l.high;
      grows : l.fn.products ≤ l.products;
      cost : l.products ≤ l.fn.products + rule.cost * (l.t * w);
    }
