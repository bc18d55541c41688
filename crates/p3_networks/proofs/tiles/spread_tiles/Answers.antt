use Rattle.p3_networks.proofs.Lemmas.{◌+◌, ◌-◌, ◌*◌, ◌/◌, length, get_or, ap, arith, mul-le-mul_right, IsChunk, rises_as, spread_room, tile_rows, tile_sizes}
use Rattle.p3_networks.proofs.Lemmas.{tile_small, tile_some, tiles_cost, cells_of_chunks, one_shifted}
use Rattle.p3_networks.proofs.tiles.spread_tiles.Goals as goal

pub on_each_chunk-requires-clause-whole : goal.on_each_chunk-requires-clause-whole
on_each_chunk-requires-clause-whole g c =
    (tile_sizes c.args.log_h c.args.log_rows c.args.width (length c.args.values.now) c.requires.shape.fits_u64
    c.requires.below c.requires.shape.size).whole

pub on_each_chunk-requires-clause-accepts : goal.on_each_chunk-requires-clause-accepts
on_each_chunk-requires-clause-accepts g c n below =
    let sizes =
    tile_sizes c.args.log_h c.args.log_rows c.args.width (length c.args.values.now) c.requires.shape.fits_u64 c.requires.below c.requires.shape.size in
    let small = tile_small _ _ _ _ _ _ n c.requires.shape.fits_u64 sizes below in
    let room = spread_room _ _ c.args.coefficients.added_bits _ _ _ _ n c.requires.added c.requires.below sizes below in
    let cells = mul-le-mul_right c.args.width room in
    let rows = tile_rows _ _ _ _ _ _ n sizes below in
    let chunk : IsChunk c.args.width c.args.log_rows n (length c.args.twiddles.now)
    (length c.args.values.now / one_shifted (c.args.log_h - c.args.log_rows)) =
    record {
      width = c.requires.shape.width;
      fits_u64 = small;
      enough = omega (arith, rows, c.requires.enough);
      size = sizes.size_is;
    } in
    (chunk, (c.requires.added, (omega (arith, cells, c.requires.rows), (omega (arith, room, c.requires.weights), c.requires.first))))

pub returns : goal.returns
returns g c =
    let field = g.F.Valued in
    let before = c.args.values.now in
    let layers_left = c.args.log_rows - c.args.coefficients.added_bits in
    let sizes = tile_sizes c.args.log_h c.args.log_rows c.args.width (length before) c.requires.shape.fits_u64 c.requires.below c.requires.shape.size in
    let tiles = one_shifted (c.args.log_h - c.args.log_rows) in
    record {
      cells = λ cells layers are.
          cells_of_chunks field.zero (length before / tiles) field.value field.value
          (λ i. field.value (get_or before i field.zero)) (cells c.args.log_rows) 0 tiles (λ n s. n * s) before
          c.on_each_chunk.new.values
          (tile_some _ _ _ _ _ _ sizes c.requires.shape.width) sizes.whole c.on_each_chunk.auto.values (λ n. omega arith)
          (λ n below held.
          let room = spread_room _ _ c.args.coefficients.added_bits _ _ _ _ n c.requires.added c.requires.below sizes below in
          c.on_each_chunk.ensures.chunks n below c.args.log_h cells layers (tile_rows _ _ _ _ _ _ n sizes below)
          (λ q t j inside. are q t j (omega (arith, inside, room))))
          (λ i inside. ap (λ n. field.value (get_or before n field.zero)) (omega arith));
      cost = rises_as _ _ _ _ (tiles_cost _ _ _ _ _ _ (layers_left + 2) sizes) c.on_each_chunk.ensures.cost;
    }
