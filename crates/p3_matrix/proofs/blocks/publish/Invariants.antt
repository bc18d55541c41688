use Rattle.p3_matrix.specs.Blocks.{Run, first_blocks}
use Rattle.p3_matrix.proofs.blocks.publish.Given as goal

abbrev pub invariant-loop-q : goal.invariant-loop-q
invariant-loop-q g l = Run g.C.BlockConsumer.step l.fn.consumer (first_blocks l.block_height l.mat l.q) l.consumer
