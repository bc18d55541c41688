use Rattle.p3_networks.proofs.Lemmas.{◌+◌, ◌-◌, ◌*◌, ◌/◌, length, arith, one_shifted, tile_rows, tile_sizes, tile_small, tile_some, tiles_cost, cells_of_chunks}
use Rattle.p3_networks.proofs.tiles.scaled_dif_tiles.Goals as goal

pub on_each_chunk-requires-clause-whole : goal.on_each_chunk-requires-clause-whole
on_each_chunk-requires-clause-whole g c =
    (tile_sizes c.args.log_h c.args.log_rows c.args.width (length c.args.values.now) c.requires.rows.fits_u64
    c.requires.below c.requires.rows.size).whole

pub on_each_chunk-requires-clause-accepts : goal.on_each_chunk-requires-clause-accepts
on_each_chunk-requires-clause-accepts g c n below =
    let sizes =
    tile_sizes c.args.log_h c.args.log_rows c.args.width (length c.args.values.now) c.requires.rows.fits_u64
    c.requires.below c.requires.rows.size in
    let rows = tile_rows _ _ _ _ _ _ n sizes below in (
      record {
        width = c.requires.rows.width;
        fits_u64 = tile_small _ _ _ _ _ _ n c.requires.rows.fits_u64 sizes below;
        enough = omega (arith, rows, c.requires.enough);
        size = sizes.size_is;
      },
      c.requires.first,
    )

pub returns-clause-cells : goal.returns-clause-cells
returns-clause-cells g c cells layers =
    let field = g.F.Valued in
    let sizes =
    tile_sizes c.args.log_h c.args.log_rows c.args.width (length c.args.values.now) c.requires.rows.fits_u64
    c.requires.below c.requires.rows.size in
    let tiles = one_shifted (c.args.log_h - c.args.log_rows) in
    cells_of_chunks field.zero (length c.args.values.now / tiles) field.value field.value (cells 0)
    (λ i. field.ring.mul (cells c.args.log_rows i) (field.value c.args.scale)) 0 tiles (λ n s. n * s)
    c.args.values.now c.on_each_chunk.new.values (tile_some _ _ _ _ _ _ sizes c.requires.rows.width) sizes.whole c.on_each_chunk.auto.values (λ n. omega arith)
    (λ n below. c.on_each_chunk.ensures.chunks n below c.args.log_h cells layers (tile_rows _ _ _ _ _ _ n sizes below))

pub returns-clause-cost : goal.returns-clause-cost
returns-clause-cost g c =
    let sizes =
    tile_sizes c.args.log_h c.args.log_rows c.args.width (length c.args.values.now) c.requires.rows.fits_u64
    c.requires.below c.requires.rows.size in
    record {
      grows = omega (arith, c.on_each_chunk.ensures.cost.grows);
      cost = omega (arith, c.on_each_chunk.ensures.cost.cost, tiles_cost _ _ _ _ _ _ (c.args.log_rows + 2) sizes);
    }
