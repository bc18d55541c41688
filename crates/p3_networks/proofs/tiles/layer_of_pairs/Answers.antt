use Rattle.p3_networks.proofs.Lemmas.{◌≡◌, ℕ, ◌+◌, ◌*◌, ◌-◌, ◌<◌, ◌≤◌, List, get_or, length, take, drop, refl, sym, ap, ap₂, ◌∙◌, arith, mul-le-mul_right}
use Rattle.p3_networks.proofs.Lemmas.{part_at, part_size, chunk_taken, layer_does}
use Rattle.p3_networks.proofs.tiles.layer_of_pairs.Goals as goal

-- Neighbours are the halves of blocks of two cells, and pair b has the twiddle of block b of the chunk: so pairs that meet are the first layer.
pub returns-clause-cells : goal.returns-clause-cells
returns-clause-cells g c =
    let field = g.F.Valued in
    let number = c.args.number in
    let x = c.args.values.now in
    let y = c.on_pairs.new.values in
    let all = c.args.twiddles.now in
    let from = number * 32 in
    let entry = λ (b : ℕ). field.value (get_or all b field.zero) in
    let meet_near = g.D.Decimation.near field.Element field.ring field.value c.args.decimation in
    let meet_far = g.D.Decimation.far field.Element field.ring field.value c.args.decimation in
    let near = λ (b : ℕ). meet_near (entry b) in
    let far = λ (b : ℕ). meet_far (entry b) in
    let cell = λ (xs : List g.row.F.Denot) (n : ℕ). field.value (get_or xs n field.zero) in
    let size : length (take (from + 32 - from) (drop from all)) ≡ from + 32 - from =
    part_size all from (from + 32 - from) (omega (arith, c.requires.chunk.enough)) in
    let twiddle : (b : ℕ) → b < 32 → cell (take (from + 32 - from) (drop from all)) b ≡ entry (from + b) =
    λ b inside. ap field.value (part_at all from (from + 32 - from) b field.zero (omega (arith, inside))) in
    layer_does field.value field.zero 1 6 number near far g.D.NetworkDecimation.order 0 x y
    (λ k before after layers room holds.
    chunk_taken field.value field.zero near far
    k 1 0 6 number 32 1 before after x y (omega arith) refl refl c.requires.chunk.size c.on_pairs.auto.values room layers
    (λ b inside. record {
      near_cell = λ i one.
          let first : b * 2 + i ≡ 2 * b = omega (arith, one) in
          let second : 2 * b + 1 ≡ b * 2 + (1 + i) = omega (arith, one) in
          ap (cell y) first ∙ c.on_pairs.ensures.pairs.near_cell b (omega (arith, inside, size))
          ∙ ap (λ t. meet_near t (cell x (2 * b)) (cell x (2 * b + 1))) (twiddle b inside)
          ∙ ap₂ (near (from + b)) (ap (cell x) (sym first)) (ap (cell x) second);
      far_cell = λ i one.
          let first : b * 2 + i ≡ 2 * b = omega (arith, one) in
          let second : 2 * b + 1 ≡ b * 2 + (1 + i) = omega (arith, one) in
          ap (cell y) (sym second) ∙ c.on_pairs.ensures.pairs.far_cell b (omega (arith, inside, size))
          ∙ ap (λ t. meet_far t (cell x (2 * b)) (cell x (2 * b + 1))) (twiddle b inside)
          ∙ ap₂ (far (from + b)) (ap (cell x) (sym first)) (ap (cell x) second);
    })
    holds)

pub returns-clause-cost : goal.returns-clause-cost
returns-clause-cost g c =
    let from = c.args.number * 32 in
    let made : length (take (from + 32 - from) (drop from c.args.twiddles.now)) ≡ from + 32 - from =
    part_size c.args.twiddles.now from (from + 32 - from) (omega (arith, c.requires.chunk.enough)) in
    let whole = ap (λ n. g.D.Decimation.cost * n) c.requires.chunk.size in
    let least : 1 * 64 ≤ g.D.Decimation.cost * 64 = mul-le-mul_right 64 g.met.D.NetworkDecimation.cost_law in
    record { grows = omega (arith, c.on_pairs.ensures.cost.grows); cost = omega (arith, c.on_pairs.ensures.cost.cost, made, whole, least) }
