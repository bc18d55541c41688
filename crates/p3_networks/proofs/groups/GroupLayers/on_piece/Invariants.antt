use Rattle.p3_networks.proofs.Lemmas.{ℕ, ◌+◌, ◌-◌, ◌*◌, ◌^◌, ◌≤◌, length, RisesAtMost, AreLayersInOrder, HoldsColumns, TakesColumns, cells_of}
use Rattle.p3_networks.proofs.groups.GroupLayers.on_piece.Given as goal

abbrev pub invariant-loop-done : goal.invariant-loop-done
invariant-loop-done g l =
    let field = g.F.Valued in
    let rule = g.R.Rule in
    let near = λ (b : ℕ). rule.near field.Element field.ring field.value l.fn.self.rule b 0 in
    let far = λ (b : ℕ). rule.far field.Element field.ring field.value l.fn.self.rule b 0 in
    let rows = 2 ^ (l.fn.self.to - l.fn.self.from) in
    let first = l.fn.number * length l.fn.chunk in
    record {
      cells : (k : ℕ) (cells : ℕ → ℕ → field.Element)
          → AreLayersInOrder l.fn.self.order k l.fn.self.width near far cells
          → (l.fn.number + 1) * 2 ^ l.fn.self.to ≤ 2 ^ k
          → HoldsColumns field.value field.zero (2 ^ l.fn.self.from * l.fn.self.width) rows first l.fn.at l.fn.end
          (cells (cells_of l.fn.self.order l.fn.self.from l.fn.self.to 0)) l.fn.chunk
          → TakesColumns field.value field.zero (2 ^ l.fn.self.from * l.fn.self.width) rows first l.fn.at l.fn.end
          (cells (cells_of l.fn.self.order l.fn.self.from l.fn.self.to l.done)) l.fn.chunk l.chunk;
      cost : RisesAtMost (rule.cost * (l.done * (rows * (l.fn.end - l.fn.at)))) (2 * l.fn.products) (2 * l.products);
    }
