use Rattle.p3_networks.proofs.Lemmas.{◌∙◌, ap, length, part_size}
use Rattle.p3_networks.proofs.halves.LowLayersChunkWork.on_chunk.Goals as goal

pub low_network_oop-requires-clause-source : goal.low_network_oop-requires-clause-source
low_network_oop-requires-clause-source g c = ap length c.chunk-source.ensures ∙ part_size c.in-Some.rows.now _ _ (rw c.in-Some.is at c.requires.2)
