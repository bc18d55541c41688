use Rattle.p3_networks.proofs.Lemmas.{◌≡◌, ◌+◌, ◌-◌, ◌*◌, ◌/◌, length, sym, ap, ◌∙◌, arith, cells_of, chunk_digits, tile_rows_of_chunk, tile_sizes, tile_some}
use Rattle.p3_networks.proofs.Lemmas.{tiles_cost, cells_of_chunks, one_shifted}
use Rattle.p3_networks.proofs.tiles.layers_of_short_chunks.Goals as goal

pub overflow_shl-chunks : goal.overflow_shl-chunks
overflow_shl-chunks g c = let digits = chunk_digits c.args.top c.args.number c.requires.chunk.fits_u64 in omega (arith, digits)

pub nonzero_div-size : goal.nonzero_div-size
nonzero_div-size g c =
    let digits = chunk_digits c.args.top c.args.number c.requires.chunk.fits_u64 in
    let sizes = tile_sizes c.args.top 6 1 (length c.args.values.now) digits c.requires.height c.requires.chunk.size in
    omega (arith, sizes.nonzero)

pub overflow_mul-layers : goal.overflow_mul-layers
overflow_mul-layers g c =
    let digits = chunk_digits c.args.top c.args.number c.requires.chunk.fits_u64 in
    let sizes = tile_sizes c.args.top 6 1 (length c.args.values.now) digits c.requires.height c.requires.chunk.size in
    omega (arith, tile_rows_of_chunk _ _ _ _ _ _ c.args.number 0 sizes (omega (arith, sizes.nonzero)), c.requires.chunk.fits_u64)

pub on_each_chunk-requires-clause-whole : goal.on_each_chunk-requires-clause-whole
on_each_chunk-requires-clause-whole g c =
    let digits = chunk_digits c.args.top c.args.number c.requires.chunk.fits_u64 in
    let sizes = tile_sizes c.args.top 6 1 (length c.args.values.now) digits c.requires.height c.requires.chunk.size in
    sizes.whole

pub on_each_chunk-requires-clause-accepts : goal.on_each_chunk-requires-clause-accepts
on_each_chunk-requires-clause-accepts g c n below =
    let digits = chunk_digits c.args.top c.args.number c.requires.chunk.fits_u64 in
    let sizes = tile_sizes c.args.top 6 1 (length c.args.values.now) digits c.requires.height c.requires.chunk.size in
    let rows = tile_rows_of_chunk _ _ _ _ _ _ c.args.number n sizes below in (
      record {
        width = omega arith;
        fits_u64 = omega (arith, rows, c.requires.chunk.fits_u64);
        enough = omega (arith, rows, c.requires.chunk.enough);
        size = sizes.size_is;
      },
      c.requires.first,
    )

pub returns : goal.returns
returns g c =
    let field = g.F.Valued in
    let number = c.args.number in
    let len = length c.args.values.now in
    let order = g.D.NetworkDecimation.order in
    let digits = chunk_digits c.args.top number c.requires.chunk.fits_u64 in
    let sizes = tile_sizes c.args.top 6 1 len digits c.requires.height c.requires.chunk.size in
    let chunks = one_shifted (c.args.top - 6) in
    let size = len / chunks in
    record {
      cells = record {
        taken = λ k cells layers room holds.
            cells_of_chunks field.zero size field.value field.value (cells (cells_of order 0 6 0))
            (cells (cells_of order 0 6 6)) (number * len) chunks (λ n s. (number * chunks + n) * s)
            c.args.values.now c.on_each_chunk.new.values (tile_some _ _ _ _ _ _ sizes (omega arith)) sizes.whole c.on_each_chunk.auto.values
            (λ n. (let spread : (number * chunks + n) * size ≡ number * (chunks * size) + n * size = omega arith in
            spread)
            ∙ ap (λ m. number * m + n * size) (sym sizes.whole))
            (λ n below held. (c.on_each_chunk.ensures.chunks n below).taken k cells layers
            (let rows = tile_rows_of_chunk _ _ _ _ _ _ number n sizes below in omega (arith, rows, room)) held)
            holds;
      };
      cost = record {
        grows = omega (arith, c.on_each_chunk.ensures.cost.grows);
        cost = omega (arith, c.on_each_chunk.ensures.cost.cost, tiles_cost _ _ _ _ _ _ (g.D.Decimation.cost * 6) sizes);
      };
    }
