use Rattle.p3_networks.proofs.Lemmas.{ap, length, ◌∙◌, part_size, chunk_of}
use Rattle.p3_networks.proofs.pairs.PacksChunkWork.on_chunk.Goals as goal

pub on_pack-requires-clause-twiddles : goal.on_pack-requires-clause-twiddles
on_pack-requires-clause-twiddles g c =
    ap length c.chunk-twiddles.ensures
    ∙ ap (λ m. length (chunk_of m c.args.number c.args.self.now.twiddles.now)) c.WIDTH.ensures
    ∙ part_size c.args.self.now.twiddles.now _ _ c.requires.1

pub returns-clause-chunk : goal.returns-clause-chunk
returns-clause-chunk g c = rw (c.chunk-twiddles.ensures, c.WIDTH.ensures) at c.on_pack.ensures.pairs
