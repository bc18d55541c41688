use Rattle.p3_networks.proofs.Lemmas.{ℕ, ◌*◌, length, RisesAtMost, AreLayersInOrder, cells_of, HoldsCells, covered, stand}
use Rattle.p3_networks.proofs.groups.layers_in_groups.Given as goal

abbrev pub invariant-loop-done : goal.invariant-loop-done
invariant-loop-done g l =
    let field = g.F.Valued in
    let rule = g.R.Rule in
    let near = λ (b : ℕ). rule.near field.Element field.ring field.value l.fn.rule b 0 in
    let far = λ (b : ℕ). rule.far field.Element field.ring field.value l.fn.rule b 0 in
    record {
      cells : (cells : ℕ → ℕ → field.Element) → AreLayersInOrder l.fn.order l.fn.log_h l.fn.width near far cells
          → HoldsCells field.value field.zero 0 (cells (cells_of l.fn.order l.fn.log_rows l.fn.log_h 0)) l.fn.values
          → HoldsCells field.value field.zero 0 (cells (stand l.fn.order l.fn.log_rows l.fn.log_h l.count l.done)) l.values;
      cost : RisesAtMost (rule.cost * (covered l.fn.order l.fn.log_rows l.fn.log_h l.count l.done * length l.fn.values))
          (2 * l.fn.products) (2 * l.products);
    }
