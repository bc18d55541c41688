use Rattle.p3_networks.proofs.Lemmas.{ℕ, ◌+◌, sym, ◌∙◌, ap₂, dit_near, dit_far}
use Rattle.p3_networks.proofs.Networks.Scaled.{scaled_near, scaled_far}
use Rattle.p3_networks.proofs.halves.scaled_layer.Goals as goal

pub returns-in-Some-clause-cells : goal.returns-in-Some-clause-cells
returns-in-Some-clause-cells g c =
    let field = g.F.Valued in
    let t = λ (b : ℕ). field.value (g.T.LayerTwiddles.at c.args.table c.args.l (c.args.block + b)) in
    rw c.in-Some.is
    (λ b p. record {
      near_cell = λ i q. (c.layer.ensures.cells b p).near_cell i q ∙ scaled_near field.ring (t b) (field.value c.in-Some.scale) _ _;
      far_cell = λ i q. (c.layer.ensures.cells b p).far_cell i q ∙ scaled_far field.ring (t b) (field.value c.in-Some.scale) _ _;
    })

pub returns-in-None-clause-cells : goal.returns-in-None-clause-cells
returns-in-None-clause-cells g c =
    let field = g.F.Valued in
    let t = λ (b : ℕ). field.value (g.T.LayerTwiddles.at c.args.table c.args.l (c.args.block + b)) in
    rw c.in-None.is
    (λ b p. record {
      near_cell =
          λ i q. (c.layer_by_block.ensures.cells b p).near_cell i q
          ∙ ap₂ (dit_near field.ring (t b)) (sym (field.ring.mul_one _)) (sym (field.ring.mul_one _));
      far_cell =
          λ i q. (c.layer_by_block.ensures.cells b p).far_cell i q
          ∙ ap₂ (dit_far field.ring (t b)) (sym (field.ring.mul_one _)) (sym (field.ring.mul_one _));
    })
