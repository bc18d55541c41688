use Rattle.p3_networks.proofs.Lemmas.{◌≡◌, ◌+◌, ◌*◌, ◌<◌, ◌≤◌, List, length, refl, sym, ap, ◌∙◌, subst, arith, ℕ, Fits-le, add-one-le, le-add_right}
use Rattle.p3_networks.proofs.Lemmas.{le_antisymm, le_refl, le_trans, lt_of_lt_of_le, zero-mul, mul-le-mul_right, Run, slot_blocks, block_within, row_below}
use Rattle.p3_networks.proofs.Lemmas.{rises_joined, rises_within, block_room, part_length, chunks_next, chunks_none, chunks_weaker}
use Rattle.p3_networks.proofs.Rows.Lent.{refused_put, run_put}
use borrow.Author.Rules.{scaled_fits≤}
use Rattle.p3_networks.proofs.chunks.lend_each_chunk.Goals as goal

-- a row of chunk n before the end of its block m, and the chunks before that end
row_in_chunk : (n blocks rows m r : ℕ) → n * (blocks * rows) + r < (n * blocks + m + 1) * rows → r < (m + 1) * rows
row_in_chunk n blocks rows m r near =
    let e : (n * blocks + m + 1) * rows ≡ n * (blocks * rows) + (m + 1) * rows = omega arith in omega (arith, e, near)

chunk_below : (p n blocks rows m r : ℕ) → m < blocks → p * (blocks * rows) + r < (n * blocks + m + 1) * rows → p < n + 1
chunk_below p n blocks rows m r below near =
    let few : (n * blocks + m + 1) * rows ≤ (n + 1) * blocks * rows = mul-le-mul_right rows
    (let next : (n + 1) * blocks ≡ n * blocks + blocks = omega arith in let l : n * blocks + m + 1 ≤ (n + 1) * blocks = omega (arith, next, below) in l) in
    let assoc : (n + 1) * blocks * rows ≡ (n + 1) * (blocks * rows) = omega arith in
    block_within p (blocks * rows) r (n + 1) (omega (arith, few, assoc, near))

pub overflow_mul-start : goal.overflow_mul-start
overflow_mul-start g c =
    Fits-le (le_trans (le-add_right _ _)
    (block_room c.loop-n.n c.args.count c.args.size (length c.args.values.now) c.loop-n-test.true c.requires.whole))
    search

pub overflow_add-chunk : goal.overflow_add-chunk
overflow_add-chunk g c = Fits-le (block_room c.loop-n.n c.args.count c.args.size (length c.args.values.now) c.loop-n-test.true c.requires.whole) search

pub offset_bounds-values-start : goal.offset_bounds-values-start
offset_bounds-values-start g c =
    scaled_fits≤ _ _ _ (le_trans (le-add_right _ _)
    (block_room c.loop-n.n c.args.count c.args.size (length c.args.values.now) c.loop-n-test.true c.requires.whole))
    search

pub slice_bounds-chunk-end : goal.slice_bounds-chunk-end
slice_bounds-chunk-end g c =
    block_room c.loop-n.n c.args.count c.args.size (length c.loop-n.values) c.loop-n-test.true
    (c.loop-n.auto.values ∙ c.requires.whole)

pub on_chunk-requires : goal.on_chunk-requires
on_chunk-requires g c =
    subst (g.W.LendingWork.accepts c.args.work.now c.loop-n.n) (sym (part_length c.loop-n.values _ _ (block_room c.loop-n.n
    c.args.count c.args.size (length c.loop-n.values) c.loop-n-test.true (c.loop-n.auto.values ∙ c.requires.whole))))
    (c.requires.accepts c.loop-n.n c.loop-n-test.true)

pub loop-n-init : goal.loop-n-init
loop-n-init g c =
    let s = g.W.LendingWork.shape c.args.work.now in
    record {
      chunks = chunks_none _ _ _ c.args.values.now;
      lent =
          subst (λ (n : ℕ). Run g.C.BlockConsumer.step c.args.consumer.now (slot_blocks s.first s.rows s.width c.args.values.now n) c.args.consumer.now)
          (sym (zero-mul s.blocks)) refl;
      cost = record { grows = le_refl c.args.products.now; cost = le-add_right _ _ };
    }

pub loop-n-preserved : goal.loop-n-preserved
loop-n-preserved g c =
    let n = c.loop-n.n in
    let s = g.W.LendingWork.shape c.args.work.now in
    let size = c.args.size in
    let now = c.loop-n.values in
    let room = block_room n c.args.count size (length now) c.loop-n-test.true (c.loop-n.auto.values ∙ c.requires.whole) in
    let part = part_length now (n * size) size room in
    let long = c.on_chunk.auto.chunk ∙ part in
    record {
      chunks = chunks_next _ size _ c.args.values.now now _ n room long c.in_default.ensures.lent.0 c.loop-n.invariant.chunks;
      lent =
          run_put s.first s.blocks s.rows s.width n size now c.on_chunk.new.chunk c.requires.blocks room long g.C.BlockConsumer.step
          c.args.consumer.now c.loop-n.consumer c.on_chunk.new.consumer c.loop-n.invariant.lent c.in_default.ensures.lent.1;
      cost = rises_joined n (g.W.LendingWork.cost c.args.work.now size) _ _ _ _ (ap (g.W.LendingWork.cost c.args.work.now) part)
          c.loop-n.invariant.cost c.on_chunk.ensures.cost;
    }

-- The chunks before the one whose block is refused are final, and the first rows of it are: their blocks were lent, one after another.
pub returns-in-Err-clause-lent : goal.returns-in-Err-clause-lent
returns-in-Err-clause-lent g c =
    let n = c.loop-n.n in
    let s = g.W.LendingWork.shape c.args.work.now in
    let size = c.args.size in
    let now = c.loop-n.values in
    let part = c.on_chunk.new.chunk in
    let (m, below, rows, stopped) = c.in-Err.ensures.lent in
    let room = block_room n c.args.count size (length now) c.loop-n-test.true (c.loop-n.auto.values ∙ c.requires.whole) in
    let long = c.on_chunk.auto.chunk ∙ part_length now (n * size) size room in
    let takes = λ (p : ℕ) (before after : List g.row.F.Denot). (r : ℕ) → r < s.blocks * s.rows
    → p * (s.blocks * s.rows) + r < (n * s.blocks + m + 1) * s.rows → g.W.LendingWork.takes c.args.work.now p r before after in
    let chunks =
    chunks_next _ size takes c.args.values.now now part n room long
    (λ r inside near. rows r (row_in_chunk n s.blocks s.rows m r near))
    (chunks_weaker _ size _ takes c.args.values.now n now (λ p xs ys before done r inside _. done r inside) c.loop-n.invariant.chunks) in (
      n * s.blocks + m,
      row_below n m s.blocks c.args.count c.loop-n-test.true below,
      λ p r inside near. chunks.done p (chunk_below p n s.blocks s.rows m r below near) r inside near,
      refused_put s.first s.blocks s.rows s.width n size now part c.requires.blocks room long g.C.BlockConsumer.step c.args.consumer.now
          c.loop-n.consumer c.on_chunk.new.consumer c.in-Err.refusal m below c.loop-n.invariant.lent stopped,
    )

pub returns-in-Err-clause-cost : goal.returns-in-Err-clause-cost
returns-in-Err-clause-cost g c =
    let n = c.loop-n.n in
    let size = c.args.size in
    let cost = g.W.LendingWork.cost c.args.work.now in
    let room = block_room n c.args.count size (length c.loop-n.values) c.loop-n-test.true (c.loop-n.auto.values ∙ c.requires.whole) in
    rises_within (n + 1) c.args.count (cost size) _ _ (add-one-le c.loop-n-test.true)
    (rises_joined n (cost size) _ _ _ _ (ap cost (part_length c.loop-n.values (n * size) size room)) c.loop-n.invariant.cost c.on_chunk.ensures.cost)

pub returns-clause-lent : goal.returns-clause-lent
returns-clause-lent g c =
    let s = g.W.LendingWork.shape c.args.work.now in
    let all = le_antisymm c.loop-n.auto.n-end c.loop-n-test.false in (
      λ p r inside near. c.loop-n.invariant.chunks.done p
          (lt_of_lt_of_le (block_within p (s.blocks * s.rows) r c.args.count (omega (arith, near))) c.loop-n-test.false) r inside,
      subst (λ n. Run g.C.BlockConsumer.step c.args.consumer.now (slot_blocks s.first s.rows s.width c.loop-n.values (n * s.blocks)) c.loop-n.consumer)
          all c.loop-n.invariant.lent,
    )

pub returns-clause-cost : goal.returns-clause-cost
returns-clause-cost g c =
    rises_within c.loop-n.n c.args.count (g.W.LendingWork.cost c.args.work.now c.args.size) _ _ c.loop-n.auto.n-end c.loop-n.invariant.cost
