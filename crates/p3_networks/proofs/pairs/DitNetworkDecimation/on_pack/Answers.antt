use Rattle.p3_networks.proofs.Lemmas.{ℕ, ◌<◌, length, sym, ap₂, ◌∙◌, arith, minus, same_at, lane_at}
use Rattle.p3_networks.proofs.pairs.DitNetworkDecimation.on_pack.Goals as goal

pub returns-clause-pairs : goal.returns-clause-pairs
returns-clause-pairs g c =
    let field = g.F.Valued in
    let value = field.value in
    let zero = field.zero in
    let lanes = g.P.PackedField.lanes in
    let wide = g.met.P.PackedField.width_law in
    let first = c.load_pairs-first.result.0 in
    let second = c.load_pairs-first.result.1 in
    let multiples = c.multiplied-multiples.result in
    let factors = c.load.result in
    let product = λ (i : ℕ) (inside : i < length c.args.twiddles.now).
    lane_at field.ring.mul value zero (lanes multiples) (lanes second) (lanes factors) i
    (wide second ∙ sym (wide factors)) (omega (arith, inside, c.requires.twiddles, wide second))
    c.multiplied-multiples.ensures.lanes
    ∙ ap₂ field.ring.mul (c.load_pairs-first.ensures.second i (omega (arith, inside, c.requires.twiddles)))
    (same_at value zero (lanes factors) c.args.twiddles.now i (wide factors ∙ sym c.requires.twiddles)
    (omega (arith, inside, c.requires.twiddles, wide factors)) c.load.ensures) in
    record {
      near_cell = λ i inside.
          c.store_pairs.ensures.first i inside
          ∙ lane_at field.ring.add value zero (lanes c.add.result) (lanes first) (lanes multiples) i
          (wide first ∙ sym (wide multiples)) (omega (arith, inside, wide first)) c.add.ensures
          ∙ ap₂ field.ring.add (c.load_pairs-first.ensures.first i inside) (product i (omega (arith, inside, c.requires.twiddles)));
      far_cell = λ i inside.
          c.store_pairs.ensures.second i inside
          ∙ lane_at (minus field.ring) value zero (lanes c.sub.result) (lanes first) (lanes multiples) i
          (wide first ∙ sym (wide multiples)) (omega (arith, inside, wide first)) c.sub.ensures
          ∙ ap₂ (minus field.ring) (c.load_pairs-first.ensures.first i inside) (product i (omega (arith, inside, c.requires.twiddles)));
    }
