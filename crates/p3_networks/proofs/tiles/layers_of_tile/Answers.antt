use Rattle.p3_networks.proofs.Lemmas.{ℕ, get_or, sym, ◌∙◌, arith, lower_then_upper, upper_then_lower}
use Rattle.p3_networks.proofs.tiles.layers_of_tile.Goals as goal

pub returns-in-LargestFirst-clause-cells : goal.returns-in-LargestFirst-clause-cells
returns-in-LargestFirst-clause-cells g c =
    let field = g.F.Valued in
    let entry = λ (b : ℕ). field.value (get_or c.args.twiddles.now b field.zero) in
    let near = λ (b : ℕ). g.D.Decimation.near field.Element field.ring field.value c.args.decimation (entry b) in
    let far = λ (b : ℕ). g.D.Decimation.far field.Element field.ring field.value c.args.decimation (entry b) in
    rw c.if-width-eq1.true
    (upper_then_lower field.value field.zero 1 c.args.top c.args.number near far g.D.NetworkDecimation.order
    (sym c.order.ensures ∙ c.in-LargestFirst.is) 0 6 c.args.top c.args.values.now c.layers_of_chunk.new.values
    c.layers_of_short_chunks.new.values
    (omega arith) c.if-top-ge-SHORT_LAYERS.true c.layers_of_chunk.auto.values c.layers_of_chunk.ensures.cells c.layers_of_short_chunks.ensures.cells)

pub returns-in-SmallestFirst-clause-cells : goal.returns-in-SmallestFirst-clause-cells
returns-in-SmallestFirst-clause-cells g c =
    let short = c.layers_of_short_chunks-in-SmallestFirst in
    let whole = c.layers_of_chunk-in-SmallestFirst in
    let field = g.F.Valued in
    let entry = λ (b : ℕ). field.value (get_or c.args.twiddles.now b field.zero) in
    let near = λ (b : ℕ). g.D.Decimation.near field.Element field.ring field.value c.args.decimation (entry b) in
    let far = λ (b : ℕ). g.D.Decimation.far field.Element field.ring field.value c.args.decimation (entry b) in
    rw c.if-width-eq1.true
    (lower_then_upper field.value field.zero 1 c.args.top c.args.number near far g.D.NetworkDecimation.order
    (sym c.order.ensures ∙ c.in-SmallestFirst.is) 0 6 c.args.top c.args.values.now short.new.values whole.new.values
    (omega arith) c.if-top-ge-SHORT_LAYERS.true short.auto.values short.ensures.cells whole.ensures.cells)
