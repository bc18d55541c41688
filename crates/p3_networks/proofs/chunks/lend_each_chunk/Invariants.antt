use Rattle.p3_networks.proofs.Lemmas.{ℕ, ◌*◌, ◌<◌, Run, RisesAtMost, slot_blocks, ChunksDone}
use Rattle.p3_networks.proofs.chunks.lend_each_chunk.Given as goal

-- the first chunks are done, and all their blocks were lent
abbrev pub invariant-loop-n : goal.invariant-loop-n
invariant-loop-n g l =
    let work = g.W.LendingWork in
    let s = work.shape l.fn.work in
    record {
      chunks : ChunksDone g.F.Valued.zero l.fn.size (λ p before after. (r : ℕ) → r < s.blocks * s.rows → work.takes l.fn.work p r before after)
          l.fn.values l.n l.values;
      lent : Run g.C.BlockConsumer.step l.fn.consumer (slot_blocks s.first s.rows s.width l.values (l.n * s.blocks)) l.consumer;
      cost : RisesAtMost (l.n * work.cost l.fn.work l.fn.size) l.fn.products l.products;
    }
