use Rattle.std.proofs.Common.{◌≡◌, sym, ap, ◌∙◌}
use Rattle.p3_networks.proofs.Networks.Scaled.{free_dit_near, free_dit_far}
use Rattle.p3_networks.proofs.halves.first_layer_oop.Goals as goal

pub returns-then-eq-clause-cells : goal.returns-then-eq-clause-cells
returns-then-eq-clause-cells g c b p =
    let field = g.F.Valued in
    let one : field.value (g.T.LayerTwiddles.at c.args.table 0 0) ≡ field.ring.one =
    ap field.value (sym c.get-first.ensures) ∙ (g.met.F.Field.eq_law _ _).0 (sym c.eq.ensures ∙ c.if-eq.true)
    ∙ ap field.value c.ONE.ensures ∙ g.met.F.Field.one_law in
    record {
      near_cell = λ i q. (c.layer_oop.ensures.cells b p).near_cell i q ∙ free_dit_near field.ring _ _ _ one;
      far_cell = λ i q. (c.layer_oop.ensures.cells b p).far_cell i q ∙ free_dit_far field.ring _ _ _ one;
    }

pub returns-else-eq-clause-cells : goal.returns-else-eq-clause-cells
returns-else-eq-clause-cells g c = rw c.get-first.ensures at c.layer_oop-else-eq.ensures.cells
