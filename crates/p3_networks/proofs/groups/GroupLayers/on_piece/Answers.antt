use Rattle.p3_networks.proofs.Lemmas.{◌≡◌, ℕ, ◌+◌, ◌*◌, ◌-◌, ◌^◌, ◌≤◌, length, sym, ap, ◌∙◌, subst, arith, Fits-le, le_refl, le-add_right, RisesAtMost}
use Rattle.p3_networks.proofs.Lemmas.{TakesColumns, cells_of, IsLayer, block_there, columns_next, columns_none, layer_in_order, group_sizes}
use Rattle.p3_networks.proofs.Lemmas.{piece_layer_counted, piece_sizes, blocks_within, chunk_within, at_end, one_shifted}
use Rattle.p3_networks.proofs.groups.GroupLayers.on_piece.Goals as goal

pub overflow_shl-part : goal.overflow_shl-part
overflow_shl-part g c = (group_sizes c.requires.group).digits

pub overflow_mul-part : goal.overflow_mul-part
overflow_mul-part g c =
    Fits-le ((group_sizes c.requires.group).within _ c.requires.group.size).1 search

pub loop-done-init : goal.loop-done-init
loop-done-init g c = record {
  cells = λ k cells layers room holds. columns_none _ _ _ _ _ _ _ _ _ holds;
  cost = record { grows = le_refl _; cost = le-add_right _ _ };
}

pub overflow_shl-half : goal.overflow_shl-half
overflow_shl-half g c =
    let sizes =
    piece_sizes c.args.self.now.from c.args.self.now.to c.layer-log_half.result c.args.number c.args.self.now.width
    c.layer-log_half.ensures.first c.layer-log_half.ensures.last c.requires.group.fits_u64 in
    omega (arith, sizes.digits, c.layer-log_half.ensures.last)

pub overflow_shl-blocks : goal.overflow_shl-blocks
overflow_shl-blocks g c =
    let sizes =
    piece_sizes c.args.self.now.from c.args.self.now.to c.layer-log_half.result c.args.number c.args.self.now.width
    c.layer-log_half.ensures.first c.layer-log_half.ensures.last c.requires.group.fits_u64 in
    omega (arith, sizes.digits)

pub overflow_mul-first_block : goal.overflow_mul-first_block
overflow_mul-first_block g c =
    let sizes =
    piece_sizes c.args.self.now.from c.args.self.now.to c.layer-log_half.result c.args.number c.args.self.now.width
    c.layer-log_half.ensures.first c.layer-log_half.ensures.last c.requires.group.fits_u64 in
    omega (arith, sizes.room)

pub layer_of_columns-requires-clause-inside : goal.layer_of_columns-requires-clause-inside
layer_of_columns-requires-clause-inside g c =
    let sizes =
    piece_sizes c.args.self.now.from c.args.self.now.to c.layer-log_half.result c.args.number c.args.self.now.width
    c.layer-log_half.ensures.first c.layer-log_half.ensures.last c.requires.group.fits_u64 in
    omega (arith, sizes.part_is, c.requires.inside)

pub layer_of_columns-requires-clause-blocks : goal.layer_of_columns-requires-clause-blocks
layer_of_columns-requires-clause-blocks g c =
    (piece_sizes c.args.self.now.from c.args.self.now.to c.layer-log_half.result c.args.number c.args.self.now.width
    c.layer-log_half.ensures.first c.layer-log_half.ensures.last c.requires.group.fits_u64).some_blocks

pub layer_of_columns-requires-clause-numbers : goal.layer_of_columns-requires-clause-numbers
layer_of_columns-requires-clause-numbers g c =
    (piece_sizes c.args.self.now.from c.args.self.now.to c.layer-log_half.result c.args.number c.args.self.now.width
    c.layer-log_half.ensures.first c.layer-log_half.ensures.last c.requires.group.fits_u64).room

pub layer_of_columns-requires-clause-size : goal.layer_of_columns-requires-clause-size
layer_of_columns-requires-clause-size g c =
    c.loop-done.auto.chunk ∙ c.requires.group.size
    ∙ (piece_sizes c.args.self.now.from c.args.self.now.to c.layer-log_half.result c.args.number
    c.args.self.now.width c.layer-log_half.ensures.first c.layer-log_half.ensures.last c.requires.group.fits_u64).cells

pub layer_of_columns-requires-clause-in_table : goal.layer_of_columns-requires-clause-in_table
layer_of_columns-requires-clause-in_table g c b inside =
    let sizes =
    piece_sizes c.args.self.now.from c.args.self.now.to c.layer-log_half.result c.args.number c.args.self.now.width
    c.layer-log_half.ensures.first c.layer-log_half.ensures.last c.requires.group.fits_u64 in
    c.requires.group.in_table _ (block_there c.args.self.now.to c.layer-log_half.result c.args.number _
    c.layer-log_half.ensures.last (omega (arith, inside, sizes.numbers)))

-- One layer more on the columns of the piece: blocks of the chunk are blocks of the whole, so the columns hold the cells after it.
pub loop-done-preserved : goal.loop-done-preserved
loop-done-preserved g c =
    let field = g.F.Valued in
    let rule = g.R.Rule in
    let from = c.args.self.now.from in
    let to = c.args.self.now.to in
    let w = c.args.self.now.width in
    let number = c.args.number in
    let e = c.layer-log_half.result in
    let done = c.loop-done.done in
    let rows = 2 ^ (to - from) in
    let half = one_shifted (e - from) in
    let blocks = one_shifted (to - 1 - e) in
    let part = one_shifted from * w in
    let near = λ (b : ℕ). rule.near field.Element field.ring field.value c.args.self.now.rule b 0 in
    let far = λ (b : ℕ). rule.far field.Element field.ring field.value c.args.self.now.rule b 0 in
    let len = length c.args.chunk.now in
    let sizes = piece_sizes from to e number w c.layer-log_half.ensures.first c.layer-log_half.ensures.last c.requires.group.fits_u64 in
    record {
      cells = λ k cells layers room holds.
          let within = chunk_within k to number room in
          let all : number * blocks + blocks ≤ 2 ^ (k - 1 - e) =
          let part_of = blocks_within k to e number c.layer-log_half.ensures.last room in
          omega (arith, part_of, ap (λ n. number * n + n) sizes.blocks_is) in
          let before = cells (cells_of c.args.self.now.order from to done) in
          let after = cells (cells_of c.args.self.now.order from to (done + 1)) in
          let layer : IsLayer (2 ^ (k - 1 - e)) (half * part) (λ b i. near b) (λ b i. far b) before after =
          subst (λ (n : ℕ). IsLayer (2 ^ (k - 1 - e)) n (λ b i. near b) (λ b i. far b) before after) (sym sizes.half_cells)
          (subst (λ (n : ℕ). IsLayer (2 ^ (k - 1 - n)) (2 ^ n * w) (λ b i. near b) (λ b i. far b) before after) (sym c.layer-log_half.ensures.layer)
          (layer_in_order c.args.self.now.order k w from to done near far cells layers (omega (arith, c.loop-done-test.true)) within)) in
          let first : number * blocks * (2 * (half * part)) ≡ number * len =
          (let assoc : number * blocks * (2 * (half * part)) ≡ number * (blocks * (2 * (half * part))) = omega arith in
          assoc)
          ∙ ap (λ n. number * n) (sym sizes.cells ∙ sym c.requires.group.size) in
          columns_next field.value field.zero c.args.at c.args.end (2 ^ from * w) part rows (blocks * (2 * half))
          (number * len) (number * blocks * (2 * (half * part))) before after
          c.args.chunk.now c.loop-done.chunk c.layer_of_columns.new.values sizes.part_is sizes.rows first
          (c.layer_of_columns.ensures.cells (2 ^ (k - 1 - e)) before after layer all)
          (c.loop-done.invariant.cells k cells layers room holds);
      cost =
          piece_layer_counted rule.cost done rows blocks half (c.args.end - c.args.at) c.args.products.now
          c.loop-done.products c.layer_of_columns.new.products sizes.rows c.loop-done.invariant.cost
          c.layer_of_columns.ensures.cost;
    }

pub returns-clause-cells : goal.returns-clause-cells
returns-clause-cells g c k cells layers room holds =
    let field = g.F.Valued in
    let end : c.loop-done.done ≡ c.args.self.now.to - c.args.self.now.from = omega arith in
    subst (λ (n : ℕ). TakesColumns field.value field.zero (2 ^ c.args.self.now.from * c.args.self.now.width)
    (2 ^ (c.args.self.now.to - c.args.self.now.from)) (c.args.number * length c.args.chunk.now) c.args.at
    c.args.end (cells (cells_of c.args.self.now.order c.args.self.now.from c.args.self.now.to n)) c.args.chunk.now
    c.loop-done.chunk) end
    (c.loop-done.invariant.cells k cells layers room holds)

pub returns-clause-cost : goal.returns-clause-cost
returns-clause-cost g c =
    let e = c.args.self.now.to - c.args.self.now.from in
    at_end (λ n. RisesAtMost (g.R.Rule.cost * (n * (2 ^ e * (c.args.end - c.args.at)))) (2 * c.args.products.now) (2 * c.loop-done.products))
    c.loop-done.done e c.loop-done.auto.done-end c.loop-done-test.false c.loop-done.invariant.cost
