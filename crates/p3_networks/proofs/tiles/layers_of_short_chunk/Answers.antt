use Rattle.p3_networks.proofs.Lemmas.{ℕ, get_or, sym, ◌∙◌, lit≤, lower_then_upper, upper_then_lower}
use Rattle.p3_networks.proofs.tiles.layers_of_short_chunk.Goals as goal

pub returns-in-LargestFirst-clause-cells : goal.returns-in-LargestFirst-clause-cells
returns-in-LargestFirst-clause-cells g c =
    let field = g.F.Valued in
    let entry = λ (b : ℕ). field.value (get_or c.args.twiddles.now b field.zero) in
    let near = λ (b : ℕ). g.D.Decimation.near field.Element field.ring field.value c.args.decimation (entry b) in
    let far = λ (b : ℕ). g.D.Decimation.far field.Element field.ring field.value c.args.decimation (entry b) in
    let order = g.D.NetworkDecimation.order in
    let is = sym c.order.ensures ∙ c.in-LargestFirst.is in
    let x = c.args.values.now in
    let s1 = c.layer_of_chunk in
    let s2 = c.layer_of_chunk-in-LargestFirst in
    let s3 = c.layer_of_chunk-in-LargestFirst-2 in
    let s4 = c.layer_of_chunk-in-LargestFirst-3 in
    let s5 = c.layer_of_chunk-in-LargestFirst-4 in
    let s6 = c.layer_of_pairs in
    let to_2 =
    upper_then_lower field.value field.zero 1 6 c.args.number near far order is 4 5 6 x s1.new.values s2.new.values
    (lit≤ tt) (lit≤ tt) (s1.auto.values) s1.ensures.cells s2.ensures.cells in
    let to_3 =
    upper_then_lower field.value field.zero 1 6 c.args.number near far order is 3 4 6 x s2.new.values s3.new.values
    (lit≤ tt) (lit≤ tt) (s2.auto.values ∙ s1.auto.values) to_2 s3.ensures.cells in
    let to_4 =
    upper_then_lower field.value field.zero 1 6 c.args.number near far order is 2 3 6 x s3.new.values s4.new.values
    (lit≤ tt) (lit≤ tt) (s3.auto.values ∙ s2.auto.values ∙ s1.auto.values) to_3 s4.ensures.cells in
    let to_5 =
    upper_then_lower field.value field.zero 1 6 c.args.number near far order is 1 2 6 x s4.new.values s5.new.values
    (lit≤ tt) (lit≤ tt) (s4.auto.values ∙ s3.auto.values ∙ s2.auto.values ∙ s1.auto.values) to_4 s5.ensures.cells in
    upper_then_lower field.value field.zero 1 6 c.args.number near far order is 0 1 6 x s5.new.values s6.new.values
    (lit≤ tt) (lit≤ tt) (s5.auto.values ∙ s4.auto.values ∙ s3.auto.values ∙ s2.auto.values ∙ s1.auto.values) to_5
    s6.ensures.cells

pub returns-in-SmallestFirst-clause-cells : goal.returns-in-SmallestFirst-clause-cells
returns-in-SmallestFirst-clause-cells g c =
    let field = g.F.Valued in
    let entry = λ (b : ℕ). field.value (get_or c.args.twiddles.now b field.zero) in
    let near = λ (b : ℕ). g.D.Decimation.near field.Element field.ring field.value c.args.decimation (entry b) in
    let far = λ (b : ℕ). g.D.Decimation.far field.Element field.ring field.value c.args.decimation (entry b) in
    let order = g.D.NetworkDecimation.order in
    let is = sym c.order.ensures ∙ c.in-SmallestFirst.is in
    let x = c.args.values.now in
    let s1 = c.layer_of_pairs-in-SmallestFirst in
    let s2 = c.layer_of_chunk-in-SmallestFirst in
    let s3 = c.layer_of_chunk-in-SmallestFirst-2 in
    let s4 = c.layer_of_chunk-in-SmallestFirst-3 in
    let s5 = c.layer_of_chunk-in-SmallestFirst-4 in
    let s6 = c.layer_of_chunk-in-SmallestFirst-5 in
    let to_2 =
    lower_then_upper field.value field.zero 1 6 c.args.number near far order is 0 1 2 x s1.new.values s2.new.values
    (lit≤ tt) (lit≤ tt) (s1.auto.values) s1.ensures.cells s2.ensures.cells in
    let to_3 =
    lower_then_upper field.value field.zero 1 6 c.args.number near far order is 0 2 3 x s2.new.values s3.new.values
    (lit≤ tt) (lit≤ tt) (s2.auto.values ∙ s1.auto.values) to_2 s3.ensures.cells in
    let to_4 =
    lower_then_upper field.value field.zero 1 6 c.args.number near far order is 0 3 4 x s3.new.values s4.new.values
    (lit≤ tt) (lit≤ tt) (s3.auto.values ∙ s2.auto.values ∙ s1.auto.values) to_3 s4.ensures.cells in
    let to_5 =
    lower_then_upper field.value field.zero 1 6 c.args.number near far order is 0 4 5 x s4.new.values s5.new.values
    (lit≤ tt) (lit≤ tt) (s4.auto.values ∙ s3.auto.values ∙ s2.auto.values ∙ s1.auto.values) to_4 s5.ensures.cells in
    lower_then_upper field.value field.zero 1 6 c.args.number near far order is 0 5 6 x s5.new.values s6.new.values
    (lit≤ tt) (lit≤ tt) (s5.auto.values ∙ s4.auto.values ∙ s3.auto.values ∙ s2.auto.values ∙ s1.auto.values) to_5
    s6.ensures.cells
