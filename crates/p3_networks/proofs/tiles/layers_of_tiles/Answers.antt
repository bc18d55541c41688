use Rattle.p3_networks.proofs.Lemmas.{◌*◌, length, arith, tile_rows, tile_sizes, tile_small, tiles_cost, tiles_taken}
use Rattle.p3_networks.proofs.tiles.layers_of_tiles.Goals as goal

pub on_each_chunk-requires-clause-whole : goal.on_each_chunk-requires-clause-whole
on_each_chunk-requires-clause-whole g c =
    (tile_sizes c.args.log_h c.args.log_rows c.args.width (length c.args.values.now) c.requires.rows.fits_u64
    c.requires.below c.requires.rows.size).whole

pub on_each_chunk-requires-clause-accepts : goal.on_each_chunk-requires-clause-accepts
on_each_chunk-requires-clause-accepts g c n below =
    let sizes =
    tile_sizes c.args.log_h c.args.log_rows c.args.width (length c.args.values.now) c.requires.rows.fits_u64
    c.requires.below c.requires.rows.size in
    let rows = tile_rows _ _ _ _ _ _ n sizes below in (
      record {
        width = c.requires.rows.width;
        fits_u64 = tile_small _ _ _ _ _ _ n c.requires.rows.fits_u64 sizes below;
        enough = omega (arith, rows, c.requires.enough);
        size = sizes.size_is;
      },
      c.requires.first,
    )

pub returns-clause-cells : goal.returns-clause-cells
returns-clause-cells g c =
    let field = g.F.Valued in
    let sizes =
    tile_sizes c.args.log_h c.args.log_rows c.args.width (length c.args.values.now) c.requires.rows.fits_u64
    c.requires.below c.requires.rows.size in
    λ cells layers. tiles_taken field.value field.value field.zero _ _ _ _ _ _ _ _ _ _ cells c.args.values.now
    c.on_each_chunk.new.values sizes c.requires.rows.width c.on_each_chunk.auto.values c.on_each_chunk.ensures.chunks
    layers

pub returns-clause-cost : goal.returns-clause-cost
returns-clause-cost g c =
    let sizes =
    tile_sizes c.args.log_h c.args.log_rows c.args.width (length c.args.values.now) c.requires.rows.fits_u64
    c.requires.below c.requires.rows.size in
    record {
      grows = omega (arith, c.on_each_chunk.ensures.cost.grows);
      cost =
          omega
          (arith, c.on_each_chunk.ensures.cost.cost, tiles_cost _ _ _ _ _ _ (g.D.Decimation.cost * c.args.log_rows) sizes);
    }
