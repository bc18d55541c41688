use Rattle.std.proofs.Common.{sym, ap, ◌∙◌, arith}
use Rattle.p3_networks.proofs.halves.layer_by_block.Goals as goal

pub layer-requires-clause-in_table : goal.layer-requires-clause-in_table
layer-requires-clause-in_table g c b t p q =
    let field = g.F.Valued in (
      c.requires.in_table,
      omega (arith, p, c.requires.table),
      λ _. ap field.value (sym c.get.ensures) ∙ (g.met.F.Field.eq_law _ _).0 (sym c.eq.ensures ∙ c.if-eq.true)
          ∙ ap field.value c.ONE.ensures ∙ g.met.F.Field.one_law,
    )

pub returns-then-eq-clause-cells : goal.returns-then-eq-clause-cells
returns-then-eq-clause-cells g c = c.layer.ensures.cells

pub returns-else-eq-clause-cells : goal.returns-else-eq-clause-cells
returns-else-eq-clause-cells g c = c.layer-else-eq.ensures.cells
