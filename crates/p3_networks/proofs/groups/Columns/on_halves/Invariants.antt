use Rattle.p3_networks.proofs.Lemmas.{◌+◌, ◌-◌, ◌*◌, ◌≤◌, get_or, InColumns, RowsDone}
use Rattle.p3_networks.proofs.groups.Columns.on_halves.Given as goal

abbrev pub invariant-loop-t : goal.invariant-loop-t
invariant-loop-t g l =
    let field = g.F.Valued in
    let rule = g.R.Rule in
    let part = l.fn.self.part in
    record {
      near : RowsDone field.zero part
          (λ t j y. InColumns field.value l.fn.self.at l.fn.self.end
          (rule.near field.Element field.ring field.value l.fn.self.rule l.fn.block 0
          (field.value (get_or l.fn.low (t * part + j) field.zero))
          (field.value (get_or l.fn.high (t * part + j) field.zero)))
          (get_or l.fn.low (t * part + j) field.zero) j y) l.fn.low l.t l.low;
      far : RowsDone field.zero part
          (λ t j y. InColumns field.value l.fn.self.at l.fn.self.end
          (rule.far field.Element field.ring field.value l.fn.self.rule l.fn.block 0
          (field.value (get_or l.fn.low (t * part + j) field.zero))
          (field.value (get_or l.fn.high (t * part + j) field.zero)))
          (get_or l.fn.high (t * part + j) field.zero) j y) l.fn.high l.t l.high;
      grows : l.fn.products ≤ l.products;
      cost : l.products ≤ l.fn.products + rule.cost * (l.t * (l.fn.self.end - l.fn.self.at));
    }
