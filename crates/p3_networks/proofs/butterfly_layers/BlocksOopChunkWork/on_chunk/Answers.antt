use Rattle.p3_networks.proofs.Lemmas.{◌∙◌, ap, length, part_size}
use Rattle.p3_networks.proofs.butterfly_layers.BlocksOopChunkWork.on_chunk.Goals as goal

pub meet_block_oop-requires-clause-source : goal.meet_block_oop-requires-clause-source
meet_block_oop-requires-clause-source g c = ap length c.chunk-source.ensures ∙ part_size c.args.self.now.source.now _ _ c.requires.1 ∙ c.requires.0

pub meet_block_oop-requires-clause-size : goal.meet_block_oop-requires-clause-size
meet_block_oop-requires-clause-size g c = c.requires.0

pub returns-clause-chunk : goal.returns-clause-chunk
returns-clause-chunk g c = rw c.chunk-source.ensures at c.meet_block_oop.ensures.cells
