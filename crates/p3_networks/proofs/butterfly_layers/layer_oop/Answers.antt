use Rattle.p3_networks.proofs.Lemmas.{◌≡◌, ◌+◌, ◌*◌, ◌≤◌, length, refl, subst, arith, part_size, turns_halved, block_room, halves_taken}
use Rattle.p3_networks.proofs.butterfly_layers.layer_oop.Goals as goal

pub overflow_mul-whole : goal.overflow_mul-whole
overflow_mul-whole g c = omega (arith, block_room 0 c.args.blocks (2 * c.args.size) (length c.args.values.now) c.requires.blocks c.requires.size)

pub on_each_chunk-requires-clause-accepts : goal.on_each_chunk-requires-clause-accepts
on_each_chunk-requires-clause-accepts g c n below = (refl, block_room n c.args.blocks _ _ below c.requires.source)

pub returns-clause-cells : goal.returns-clause-cells
returns-clause-cells g c b below =
    halves_taken g.F.Valued.zero _ g.F.Valued.value _ _ c.args.size _ b c.args.source.now c.on_each_chunk.new.values
    (part_size c.args.values.now _ _ (block_room b _ _ _ below c.requires.size)) refl (c.on_each_chunk.ensures.chunks b below)

pub returns-clause-cost : goal.returns-clause-cost
returns-clause-cost g c =
    let cost = g.B.Butterfly.cost in
    let swap : c.args.blocks * (cost * c.args.size) ≡ cost * (c.args.blocks * c.args.size) = omega arith in
    subst (λ n. c.on_each_chunk.new.products ≤ c.args.products.now + n) swap
    (turns_halved _ c.args.blocks (cost * c.args.size) _ _ refl c.on_each_chunk.ensures.cost).cost
