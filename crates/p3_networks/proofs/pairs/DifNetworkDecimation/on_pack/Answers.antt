use Rattle.p3_networks.proofs.Lemmas.{sym, ap₂, ◌∙◌, arith, minus, same_at, lane_at}
use Rattle.p3_networks.proofs.pairs.DifNetworkDecimation.on_pack.Goals as goal

pub returns-clause-pairs : goal.returns-clause-pairs
returns-clause-pairs g c =
    let field = g.F.Valued in
    let value = field.value in
    let zero = field.zero in
    let lanes = g.P.PackedField.lanes in
    let wide = g.met.P.PackedField.width_law in
    let first = c.load_pairs-first.result.0 in
    let second = c.load_pairs-first.result.1 in
    let difference = c.sub.result in
    let factors = c.load.result in
    record {
      near_cell = λ i inside.
          c.store_pairs.ensures.first i inside
          ∙ lane_at field.ring.add value zero (lanes c.add.result) (lanes first) (lanes second) i
          (wide first ∙ sym (wide second)) (omega (arith, inside, wide first)) c.add.ensures
          ∙ ap₂ field.ring.add (c.load_pairs-first.ensures.first i inside) (c.load_pairs-first.ensures.second i inside);
      far_cell = λ i inside.
          c.store_pairs.ensures.second i inside
          ∙ lane_at field.ring.mul value zero (lanes c.multiplied-multiples.result) (lanes difference) (lanes factors) i
          (wide difference ∙ sym (wide factors)) (omega (arith, inside, wide difference))
          c.multiplied-multiples.ensures.lanes
          ∙ ap₂ field.ring.mul
          (lane_at (minus field.ring) value zero (lanes difference) (lanes first) (lanes second) i
          (wide first ∙ sym (wide second)) (omega (arith, inside, wide first)) c.sub.ensures
          ∙ ap₂ (minus field.ring) (c.load_pairs-first.ensures.first i inside) (c.load_pairs-first.ensures.second i inside))
          (same_at value zero (lanes factors) c.args.twiddles.now i (wide factors ∙ sym c.requires.twiddles)
          (omega (arith, inside, wide factors)) c.load.ensures);
    }
