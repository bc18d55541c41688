use Rattle.p3_networks.proofs.Lemmas.{◌≡◌, ◌+◌, ◌*◌, ◌≤◌, length, refl, subst, arith, turns_halved, block_room, halves_taken}
use Rattle.p3_networks.proofs.butterfly_layers.meet_blocks.Goals as goal

pub overflow_mul-size : goal.overflow_mul-size
overflow_mul-size g c =
    omega (
      arith,
      block_room 0 c.args.blocks (2 * (c.args.half * c.args.width)) (length c.args.values.now) c.requires.blocks
          c.requires.size,
    )

pub overflow_mul-size-2 : goal.overflow_mul-size-2
overflow_mul-size-2 g c =
    omega (
      arith,
      block_room 0 c.args.blocks (2 * (c.args.half * c.args.width)) (length c.args.values.now) c.requires.blocks
          c.requires.size,
    )

pub on_each_chunk-requires-clause-accepts : goal.on_each_chunk-requires-clause-accepts
on_each_chunk-requires-clause-accepts g c n below = (
  c.requires.width,
  (
    c.requires.nonzero,
    (omega (arith, below, c.requires.numbers), (refl, λ t inside. c.requires.in_table n t below inside)),
  ),
)

pub returns-clause-cells : goal.returns-clause-cells
returns-clause-cells g c b below =
    halves_taken g.F.Valued.zero _ g.F.Valued.value _ _ (c.args.half * c.args.width) _ b c.args.values.now
    c.on_each_chunk.new.values refl refl (c.on_each_chunk.ensures.chunks b below)

pub returns-clause-cost : goal.returns-clause-cost
returns-clause-cost g c =
    let cost = g.R.Rule.cost in
    let size = c.args.half * c.args.width in
    let swap : c.args.blocks * (cost * size) ≡ cost * (c.args.blocks * size) = omega arith in
    subst (λ n. c.on_each_chunk.new.products ≤ c.args.products.now + n) swap
    (turns_halved _ c.args.blocks (cost * size) _ _ refl c.on_each_chunk.ensures.cost).cost
