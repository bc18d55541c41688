use Rattle.p3_networks.proofs.Lemmas.{ap, ◌∙◌, arith, ◌+◌, ◌*◌, halves_same, in_first, in_second, of_halves, lane_at}
use Rattle.p3_networks.proofs.butterfly_layers.meet_block_oop.Goals as goal

pub returns-clause-cells : goal.returns-clause-cells
returns-clause-cells g c =
    let field = g.F.Valued in
    let near = g.B.Butterfly.near field.Element field.ring field.value c.args.butterfly in
    let far = g.B.Butterfly.far field.Element field.ring field.value c.args.butterfly in
    let front = c.split_at.ensures in
    let low = c.apply_to_rows_oop.new.dst_1 in
    let high = c.apply_to_rows_oop.new.dst_2 in
    let size = c.apply_to_rows_oop.auto.dst_1 ∙ c.split_at_mut-low.ensures.front_len in
    let same = halves_same _ _ _ _ front.front_len front.back_len c.requires.source in
    record {
      near_cell = λ i inside.
          ap field.value (in_first low high i field.zero (omega (arith, inside, size)))
          ∙ lane_at near field.value field.zero low c.split_at.result.0.now c.split_at.result.1.now i same
          (omega (arith, inside, front.front_len)) c.apply_to_rows_oop.ensures.near
          ∙ of_halves (λ (x y : g.row.F.Denot). near (field.value x) (field.value y)) c.args.source.now _ _ c.args.size
          i field.zero front.front front.back inside;
      far_cell = λ i inside.
          ap field.value (in_second low high c.args.size i field.zero size)
          ∙ lane_at far field.value field.zero high c.split_at.result.0.now c.split_at.result.1.now i same
          (omega (arith, inside, front.front_len)) c.apply_to_rows_oop.ensures.far
          ∙ of_halves (λ (x y : g.row.F.Denot). far (field.value x) (field.value y)) c.args.source.now _ _ c.args.size i
          field.zero front.front front.back inside;
    }

pub returns-clause-count : goal.returns-clause-count
returns-clause-count g c = c.apply_to_rows_oop.ensures.count ∙ ap (λ n. c.args.products.now + g.B.Butterfly.cost * n) c.split_at.ensures.front_len
