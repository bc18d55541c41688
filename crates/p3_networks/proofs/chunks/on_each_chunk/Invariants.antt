use Rattle.p3_networks.proofs.Lemmas.{◌*◌, RisesAtMost, ChunksDone}
use Rattle.p3_networks.proofs.chunks.on_each_chunk.Given as goal

abbrev pub invariant-loop-n : goal.invariant-loop-n
invariant-loop-n g l =
    let work = g.W.ChunkWork in
    record {
      chunks : ChunksDone g.F.Valued.zero l.fn.size (work.takes l.fn.work) l.fn.values l.n l.values;
      cost : RisesAtMost (l.n * work.cost l.fn.work l.fn.size) (2 * l.fn.products) (2 * l.products);
    }
