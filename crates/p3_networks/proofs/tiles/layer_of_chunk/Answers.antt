use Rattle.p3_networks.proofs.Lemmas.{◌≡◌, ℕ, ◌+◌, ◌-◌, ◌*◌, ◌≤◌, length, get_or, sym, ap, ap₂, ◌∙◌, subst, arith, mul-le-mul, mul-le-mul_right, IsLayer}
use Rattle.p3_networks.proofs.Lemmas.{block_there, chunk_sizes, chunk_taken, layer_does, cells_by_halves, one_shifted}
use Rattle.p3_networks.proofs.tiles.layer_of_chunk.Goals as goal

pub overflow_shl-half : goal.overflow_shl-half
overflow_shl-half g c =
    let sizes = chunk_sizes c.args.top c.args.log_half c.args.number c.requires.below c.requires.chunk.fits_u64 in
    omega (arith, sizes.digits, c.requires.below)

pub overflow_shl-blocks : goal.overflow_shl-blocks
overflow_shl-blocks g c =
    let sizes = chunk_sizes c.args.top c.args.log_half c.args.number c.requires.below c.requires.chunk.fits_u64 in
    omega (arith, sizes.digits)

pub overflow_mul-half : goal.overflow_mul-half
overflow_mul-half g c =
    let sizes = chunk_sizes c.args.top c.args.log_half c.args.number c.requires.below c.requires.chunk.fits_u64 in
    let whole =
    c.requires.chunk.size ∙ cells_by_halves c.args.top c.args.log_half c.args.width c.requires.below
    ∙ sym (ap₂ (λ (n h : ℕ). n * (2 * (h * c.args.width))) sizes.blocks_is sizes.half_is) in
    let once : 1 * (2 * ((one_shifted c.args.log_half) * c.args.width))
    ≤ (one_shifted (c.args.top - 1 - c.args.log_half)) * (2 * ((one_shifted c.args.log_half) * c.args.width)) =
    mul-le-mul_right (2 * ((one_shifted c.args.log_half) * c.args.width)) sizes.some_blocks in
    omega (arith, once, whole)

pub overflow_mul-number : goal.overflow_mul-number
overflow_mul-number g c =
    let sizes = chunk_sizes c.args.top c.args.log_half c.args.number c.requires.below c.requires.chunk.fits_u64 in
    omega (arith, sizes.room)

pub layer-requires-clause-nonzero : goal.layer-requires-clause-nonzero
layer-requires-clause-nonzero g c =
    let sizes = chunk_sizes c.args.top c.args.log_half c.args.number c.requires.below c.requires.chunk.fits_u64 in
    let some : 1 * 1 ≤ (one_shifted c.args.log_half) * c.args.width = mul-le-mul sizes.nonzero c.requires.chunk.width in
    omega (arith, some)

pub layer-requires-clause-blocks : goal.layer-requires-clause-blocks
layer-requires-clause-blocks g c = (chunk_sizes c.args.top c.args.log_half c.args.number c.requires.below c.requires.chunk.fits_u64).some_blocks

pub layer-requires-clause-numbers : goal.layer-requires-clause-numbers
layer-requires-clause-numbers g c = (chunk_sizes c.args.top c.args.log_half c.args.number c.requires.below c.requires.chunk.fits_u64).room

pub layer-requires-clause-size : goal.layer-requires-clause-size
layer-requires-clause-size g c =
    let sizes = chunk_sizes c.args.top c.args.log_half c.args.number c.requires.below c.requires.chunk.fits_u64 in
    c.requires.chunk.size ∙ cells_by_halves c.args.top c.args.log_half c.args.width c.requires.below
    ∙ sym (ap₂ (λ (n h : ℕ). n * (2 * (h * c.args.width))) sizes.blocks_is sizes.half_is) ∙ omega arith

pub layer-requires-clause-in_table : goal.layer-requires-clause-in_table
layer-requires-clause-in_table g c b t inside below =
    let sizes = chunk_sizes c.args.top c.args.log_half c.args.number c.requires.below c.requires.chunk.fits_u64 in (
      omega (
        arith,
        block_there c.args.top c.args.log_half c.args.number
            (c.args.number * one_shifted (c.args.top - 1 - c.args.log_half) + b) c.requires.below
            (omega (arith, inside, sizes.numbers)),
        c.requires.chunk.enough,
      ),
      c.requires.first,
    )

pub returns-clause-cells : goal.returns-clause-cells
returns-clause-cells g c =
    let field = g.F.Valued in
    let sizes = chunk_sizes c.args.top c.args.log_half c.args.number c.requires.below c.requires.chunk.fits_u64 in
    let size = one_shifted c.args.log_half * c.args.width in
    let blocks = one_shifted (c.args.top - 1 - c.args.log_half) in
    let one : size * 1 ≡ size = omega arith in
    let entry = λ (b : ℕ). field.value (get_or c.args.twiddles.now b field.zero) in
    let near = λ (b : ℕ). g.D.Decimation.near field.Element field.ring field.value c.args.decimation (entry b) in
    let far = λ (b : ℕ). g.D.Decimation.far field.Element field.ring field.value c.args.decimation (entry b) in
    let x = c.args.values.now in
    let y = c.layer.new.values in
    layer_does field.value field.zero c.args.width c.args.top c.args.number near far g.D.NetworkDecimation.order c.args.log_half x y
    (λ k before after layers room holds.
    chunk_taken field.value field.zero near far
    k c.args.width c.args.log_half c.args.top c.args.number blocks (one_shifted c.args.log_half) before after x y c.requires.below sizes.blocks_is sizes.half_is
    (c.requires.chunk.size ∙ cells_by_halves c.args.top c.args.log_half c.args.width c.requires.below
    ∙ sym (ap₂ (λ (n h : ℕ). n * (2 * (h * c.args.width))) sizes.blocks_is sizes.half_is))
    c.layer.auto.values room layers
    (subst (λ (n : ℕ). IsLayer blocks n (λ b i. near (c.args.number * blocks + b))
    (λ b i. far (c.args.number * blocks + b)) (λ u. field.value (get_or x u field.zero))
    (λ u. field.value (get_or y u field.zero))) one c.layer.ensures.cells)
    holds)

pub returns-clause-cost : goal.returns-clause-cost
returns-clause-cost g c =
    let sizes = chunk_sizes c.args.top c.args.log_half c.args.number c.requires.below c.requires.chunk.fits_u64 in
    let whole : length c.args.values.now ≡ 2 * ((one_shifted (c.args.top - 1 - c.args.log_half)) * ((one_shifted c.args.log_half) * c.args.width * 1)) =
    c.requires.chunk.size ∙ cells_by_halves c.args.top c.args.log_half c.args.width c.requires.below
    ∙ sym (ap₂ (λ (n h : ℕ). n * (2 * (h * c.args.width))) sizes.blocks_is sizes.half_is) ∙ omega arith in
    let pairs = ap (λ (n : ℕ). g.D.Decimation.cost * n) whole in
    record { grows = omega (arith, c.layer.ensures.grows); cost = omega (arith, c.layer.ensures.cost, pairs) }
