use Rattle.p3_networks.proofs.Lemmas.{◌≡◌, ◌-◌, ◌*◌, ◌/◌, length, ap, ◌∙◌, arith, rises_as, one_shifted, tile_rows, tile_sizes, tile_small, tiles_cost}
use Rattle.p3_networks.proofs.Lemmas.{tiles_taken}
use Rattle.p3_networks.proofs.groups.group_on_chunks.Goals as goal

pub on_each_chunk-requires-clause-whole : goal.on_each_chunk-requires-clause-whole
on_each_chunk-requires-clause-whole g c =
    (tile_sizes c.args.log_h c.args.layers.to c.args.layers.width (length c.args.values.now) c.requires.rows.fits_u64
    c.requires.below c.requires.rows.size).whole

pub on_each_chunk-requires-clause-accepts : goal.on_each_chunk-requires-clause-accepts
on_each_chunk-requires-clause-accepts g c n below =
    let sizes =
    tile_sizes c.args.log_h c.args.layers.to c.args.layers.width (length c.args.values.now) c.requires.rows.fits_u64
    c.requires.below c.requires.rows.size in
    let rows = tile_rows _ _ _ _ _ _ n sizes below in
    let small = tile_small _ _ _ _ _ _ n c.requires.rows.fits_u64 sizes below in
    record {
      width = c.requires.rows.width;
      order = c.requires.order;
      fits_u64 = small;
      piece = c.requires.piece;
      size = sizes.size_is;
      in_table = λ b inside. c.requires.in_table b (omega (arith, rows, inside));
    }

pub returns-clause-cells : goal.returns-clause-cells
returns-clause-cells g c =
    let field = g.F.Valued in
    let sizes =
    tile_sizes c.args.log_h c.args.layers.to c.args.layers.width (length c.args.values.now) c.requires.rows.fits_u64
    c.requires.below c.requires.rows.size in
    λ cells layers. tiles_taken field.value field.value field.zero _ _ _ _ _ _ _ _ _ _ cells c.args.values.now
    c.on_each_chunk.new.values sizes c.requires.rows.width c.on_each_chunk.auto.values c.on_each_chunk.ensures.chunks layers

pub returns-clause-cost : goal.returns-clause-cost
returns-clause-cost g c =
    let sizes =
    tile_sizes c.args.log_h c.args.layers.to c.args.layers.width (length c.args.values.now) c.requires.rows.fits_u64
    c.requires.below c.requires.rows.size in
    let cost = g.R.Rule.cost in
    let layers = c.args.layers.to - c.args.layers.from in
    let size = length c.args.values.now / one_shifted (c.args.log_h - c.args.layers.to) in
    let tiles = one_shifted (c.args.log_h - c.args.layers.to) in
    let all : tiles * (cost * (layers * size)) ≡ cost * (layers * length c.args.values.now) =
    ap (λ n. tiles * n) (let assoc : cost * (layers * size) ≡ cost * layers * size = omega arith in assoc)
    ∙ tiles_cost _ _ _ _ _ _ (cost * layers) sizes ∙ omega arith in
    rises_as _ _ _ _ all c.on_each_chunk.ensures.cost
