use Rattle.p3_matrix.proofs.BlockRuns.{run_more}
use Rattle.p3_matrix.proofs.blocks.publish.Goals as goal

pub loop-q-preserved : goal.loop-q-preserved
loop-q-preserved g c =
    run_more g.C.BlockConsumer.step c.args.block_height c.args.mat.now c.loop-q.q c.args.consumer.now c.loop-q.consumer c.consume.new.self
    c.loop-q.invariant (rw c.view_rows.ensures at c.in_ok-consume.ensures)
