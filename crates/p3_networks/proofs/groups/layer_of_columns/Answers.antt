use Rattle.p3_networks.proofs.Lemmas.{◌≡◌, ℕ, ◌*◌, ◌-◌, length, refl, arith, blocks_of_columns, rises_as, turns_halved, block_room}
use Rattle.p3_networks.proofs.groups.layer_of_columns.Goals as goal

pub overflow_mul-size : goal.overflow_mul-size
overflow_mul-size g c =
    omega (
      arith,
      block_room 0 c.args.blocks (2 * (c.args.meet.half * c.args.meet.part)) (length c.args.values.now)
          c.requires.blocks c.requires.size,
    )

pub overflow_mul-size-2 : goal.overflow_mul-size-2
overflow_mul-size-2 g c =
    omega (
      arith,
      block_room 0 c.args.blocks (2 * (c.args.meet.half * c.args.meet.part)) (length c.args.values.now)
          c.requires.blocks c.requires.size,
    )

pub on_each_chunk-requires-clause-accepts : goal.on_each_chunk-requires-clause-accepts
on_each_chunk-requires-clause-accepts g c n below = (
  c.requires.ordered,
  (c.requires.inside, (omega (arith, below, c.requires.numbers), (refl, c.requires.in_table n below))),
)

pub returns-clause-cells : goal.returns-clause-cells
returns-clause-cells g c all before after layer within holds =
    let field = g.F.Valued in
    let rule = g.R.Rule in
    blocks_of_columns field.value field.zero c.args.meet.part c.args.meet.half c.args.meet.at c.args.meet.end
    (λ (n : ℕ). rule.near field.Element field.ring field.value c.args.meet.rule n 0)
    (λ (n : ℕ). rule.far field.Element field.ring field.value c.args.meet.rule n 0)
    all c.args.meet.first_block c.args.blocks before after c.args.values.now c.on_each_chunk.new.values layer within holds c.on_each_chunk.ensures.chunks

pub returns-clause-cost : goal.returns-clause-cost
returns-clause-cost g c =
    let cost = g.R.Rule.cost in
    let size = c.args.meet.half * (c.args.meet.end - c.args.meet.at) in
    let swap : c.args.blocks * (cost * size) ≡ cost * (c.args.blocks * size) = omega arith in
    rises_as _ _ _ _ swap (turns_halved _ c.args.blocks (cost * size) _ _ refl c.on_each_chunk.ensures.cost)
