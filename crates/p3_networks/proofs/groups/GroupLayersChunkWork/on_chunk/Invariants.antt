use Rattle.p3_networks.proofs.Lemmas.{ℕ, ◌+◌, ◌-◌, ◌*◌, ◌^◌, ◌≤◌, length, RisesAtMost, AreLayersInOrder, TakesColumns, cells_of, HoldsCells}
use Rattle.p3_networks.proofs.groups.GroupLayersChunkWork.on_chunk.Given as goal

abbrev pub invariant-loop-p : goal.invariant-loop-p
invariant-loop-p g l =
    let field = g.F.Valued in
    let rule = g.R.Rule in
    let near = λ (b : ℕ). rule.near field.Element field.ring field.value l.fn.self.rule b 0 in
    let far = λ (b : ℕ). rule.far field.Element field.ring field.value l.fn.self.rule b 0 in
    let rows = 2 ^ (l.fn.self.to - l.fn.self.from) in
    let part = 2 ^ l.fn.self.from * l.fn.self.width in
    let first = l.fn.number * length l.fn.chunk in
    let done = l.p * l.fn.self.piece in
    record {
      cells : (k : ℕ) (cells : ℕ → ℕ → field.Element)
          → AreLayersInOrder l.fn.self.order k l.fn.self.width near far cells
          → (l.fn.number + 1) * 2 ^ l.fn.self.to ≤ 2 ^ k
          → HoldsCells field.value field.zero first (cells (cells_of l.fn.self.order l.fn.self.from l.fn.self.to 0)) l.fn.chunk
          → TakesColumns field.value field.zero part rows first 0 done
          (cells (cells_of l.fn.self.order l.fn.self.from l.fn.self.to (l.fn.self.to - l.fn.self.from))) l.fn.chunk
          l.chunk;
      cost : RisesAtMost (rule.cost * ((l.fn.self.to - l.fn.self.from) * (rows * (done - (done - part))))) (2 * l.fn.products) (2 * l.products);
    }
