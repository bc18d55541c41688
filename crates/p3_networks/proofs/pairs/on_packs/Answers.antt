use Rattle.p3_networks.proofs.Lemmas.{◌≡◌, ◌+◌, ◌*◌, ◌/◌, ◌≤◌, length, refl, ap, ◌∙◌, subst, arith, mul-le-mul_right, turns_halved, block_room, pairs_of_chunks}
use Rattle.p3_networks.proofs.Lemmas.{whole_packs}
use Rattle.p3_networks.proofs.pairs.on_packs.Goals as goal

pub overflow_mul-width : goal.overflow_mul-width
overflow_mul-width g c =
    let p = whole_packs (length c.args.twiddles.now) c.requires.whole.0 _ c.WIDTH-width.result c.requires.width c.WIDTH-width.ensures c.requires.whole.1 in
    let one : 1 * c.WIDTH-width.result ≤ length c.args.twiddles.now / c.WIDTH-width.result * c.WIDTH-width.result =
    mul-le-mul_right c.WIDTH-width.result c.if-count-gt0.true in
    omega (arith, one, p, c.requires.size)

pub on_each_chunk-requires-clause-whole : goal.on_each_chunk-requires-clause-whole
on_each_chunk-requires-clause-whole g c =
    let p = whole_packs (length c.args.twiddles.now) c.requires.whole.0 _ c.WIDTH-width.result c.requires.width c.WIDTH-width.ensures c.requires.whole.1 in
    c.requires.size ∙ ap (λ n. 2 * n) p ∙ omega arith

pub on_each_chunk-requires-clause-accepts : goal.on_each_chunk-requires-clause-accepts
on_each_chunk-requires-clause-accepts g c n below =
    let width = c.WIDTH-width.result in
    let len = length c.args.twiddles.now in
    let p = whole_packs (length c.args.twiddles.now) c.requires.whole.0 _ c.WIDTH-width.result c.requires.width c.WIDTH-width.ensures c.requires.whole.1 in
    (ap (λ m. 2 * m) c.WIDTH-width.ensures, subst (λ m. n * m + m ≤ len) c.WIDTH-width.ensures (block_room n (len / width) width len below p))

pub returns-then-count-gt0-clause-pairs : goal.returns-then-count-gt0-clause-pairs
returns-then-count-gt0-clause-pairs g c =
    let field = g.F.Valued in
    let len = length c.args.twiddles.now in
    let count = len / c.WIDTH-width.result in
    let p = whole_packs (length c.args.twiddles.now) c.requires.whole.0 _ c.WIDTH-width.result c.requires.width c.WIDTH-width.ensures c.requires.whole.1 in
    pairs_of_chunks field.value field.zero (g.D.Decimation.near field.Element field.ring field.value c.args.decimation)
    (g.D.Decimation.far field.Element field.ring field.value c.args.decimation)
    _ count (2 * c.WIDTH-width.result) c.args.twiddles.now c.args.values.now c.on_each_chunk.new.values c.requires.width (ap (λ m. 2 * m) c.WIDTH-width.ensures)
    c.on_each_chunk.ensures.chunks len (p ∙ ap (λ m. count * m) c.WIDTH-width.ensures)

pub returns-then-count-gt0-clause-cost : goal.returns-then-count-gt0-clause-cost
returns-then-count-gt0-clause-cost g c =
    let width = c.WIDTH-width.result in
    let count = length c.args.twiddles.now / width in
    let p = whole_packs (length c.args.twiddles.now) c.requires.whole.0 _ c.WIDTH-width.result c.requires.width c.WIDTH-width.ensures c.requires.whole.1 in
    let made = turns_halved count count width c.args.products.now c.on_each_chunk.new.products refl c.on_each_chunk.ensures.cost in
    record { grows = made.grows; cost = omega (arith, made.cost, p) }

pub returns-else-count-gt0-clause-pairs : goal.returns-else-count-gt0-clause-pairs
returns-else-count-gt0-clause-pairs g c =
    let p = whole_packs (length c.args.twiddles.now) c.requires.whole.0 _ c.WIDTH-width.result c.requires.width c.WIDTH-width.ensures c.requires.whole.1 in
    let zero : length c.args.twiddles.now / c.WIDTH-width.result ≡ 0 = omega (arith, c.if-count-gt0.false) in
    let none : length c.args.twiddles.now ≡ 0 = omega (arith, p, ap (λ n. n * c.WIDTH-width.result) zero) in
    record { near_cell = λ i inside. absurd (omega (arith, inside, none)); far_cell = λ i inside. absurd (omega (arith, inside, none)) }
