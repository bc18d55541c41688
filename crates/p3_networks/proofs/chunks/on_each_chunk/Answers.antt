use Rattle.p3_networks.proofs.Lemmas.{◌*◌, length, sym, ap, ◌∙◌, subst, Fits-le, le-add_right, le_refl, le_trans, lt_of_lt_of_le, rises_joined, rises_within}
use Rattle.p3_networks.proofs.Lemmas.{block_room, part_length, chunks_next, chunks_none}
use borrow.Author.Rules.{scaled_fits≤}
use Rattle.p3_networks.proofs.chunks.on_each_chunk.Goals as goal

pub overflow_mul-start : goal.overflow_mul-start
overflow_mul-start g c =
    Fits-le (le_trans (le-add_right _ _)
    (block_room c.loop-n.n c.args.count c.args.size (length c.args.values.now) c.loop-n-test.true c.requires.whole))
    search

pub overflow_add-chunk : goal.overflow_add-chunk
overflow_add-chunk g c = Fits-le (block_room c.loop-n.n c.args.count c.args.size (length c.args.values.now) c.loop-n-test.true c.requires.whole) search

pub offset_bounds-values-start : goal.offset_bounds-values-start
offset_bounds-values-start g c =
    scaled_fits≤ _ _ _ (le_trans (le-add_right _ _)
    (block_room c.loop-n.n c.args.count c.args.size (length c.args.values.now) c.loop-n-test.true c.requires.whole))
    search

pub slice_bounds-chunk-end : goal.slice_bounds-chunk-end
slice_bounds-chunk-end g c =
    block_room c.loop-n.n c.args.count c.args.size (length c.loop-n.values) c.loop-n-test.true
    (c.loop-n.auto.values ∙ c.requires.whole)

pub on_chunk-requires : goal.on_chunk-requires
on_chunk-requires g c =
    subst (g.W.ChunkWork.accepts c.args.work c.loop-n.n) (sym (part_length c.loop-n.values _ _ (block_room c.loop-n.n
    c.args.count c.args.size (length c.loop-n.values) c.loop-n-test.true (c.loop-n.auto.values ∙ c.requires.whole))))
    (c.requires.accepts c.loop-n.n c.loop-n-test.true)

pub loop-n-init : goal.loop-n-init
loop-n-init g c = record {
  chunks = chunks_none _ _ _ c.args.values.now;
  cost = record { grows = le_refl _; cost = le-add_right _ _ };
}

pub loop-n-preserved : goal.loop-n-preserved
loop-n-preserved g c =
    let n = c.loop-n.n in
    let size = c.args.size in
    let cost = g.W.ChunkWork.cost c.args.work in
    let room = block_room n c.args.count size (length c.loop-n.values) c.loop-n-test.true (c.loop-n.auto.values ∙ c.requires.whole) in
    let part = part_length c.loop-n.values (n * size) size room in
    record {
      chunks =
          chunks_next _ size _ c.args.values.now c.loop-n.values _ n room (c.on_chunk.auto.chunk ∙ part)
          c.on_chunk.ensures.chunk c.loop-n.invariant.chunks;
      cost = rises_joined n (cost size) _ _ _ _ (ap cost part) c.loop-n.invariant.cost c.on_chunk.ensures.cost;
    }

pub returns-clause-chunks : goal.returns-clause-chunks
returns-clause-chunks g c n below = c.loop-n.invariant.chunks.done n (lt_of_lt_of_le below c.loop-n-test.false)

pub returns-clause-cost : goal.returns-clause-cost
returns-clause-cost g c =
    rises_within c.loop-n.n c.args.count (g.W.ChunkWork.cost c.args.work c.args.size) _ _ c.loop-n.auto.n-end c.loop-n.invariant.cost
