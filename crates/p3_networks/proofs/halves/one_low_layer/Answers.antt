use Rattle.p3_networks.proofs.Lemmas.{◌≡◌, ℕ, ◌-◌, ◌*◌, ◌<◌, sym, ap, ◌∙◌, arith, rules, AreRows, one_shifted, cells_by_halves, done_shift, left_shift}
use Rattle.p3_networks.proofs.Lemmas.{some_rows}
use Rattle.p3_networks.proofs.halves.one_low_layer.Goals as goal

-- the blocks of a layer fill the rows
filled : (k l w n : ℕ) → l < k → AreRows k w n → n ≡ one_shifted (k - 1 - l) * (2 * (one_shifted l * w))
filled k l w n below rows = rw (done_shift k l below rows.fits_u64, left_shift k l below rows.fits_u64) (rows.size ∙ cells_by_halves k l w below)

pub layer-requires-clause-nonzero : goal.layer-requires-clause-nonzero
layer-requires-clause-nonzero g c = some_rows _ c.args.l (done_shift c.args.log_h c.args.l c.requires.below c.requires.rows.fits_u64)

pub layer-requires-else-eq-clause-nonzero : goal.layer-requires-else-eq-clause-nonzero
layer-requires-else-eq-clause-nonzero g c = some_rows _ c.args.l (done_shift c.args.log_h c.args.l c.requires.below c.requires.rows.fits_u64)

pub layer-requires-clause-blocks : goal.layer-requires-clause-blocks
layer-requires-clause-blocks g c = some_rows _ (c.args.log_h - 1 - c.args.l) (left_shift c.args.log_h c.args.l c.requires.below c.requires.rows.fits_u64)

pub layer-requires-else-eq-clause-blocks : goal.layer-requires-else-eq-clause-blocks
layer-requires-else-eq-clause-blocks g c =
    some_rows _ (c.args.log_h - 1 - c.args.l)
    (left_shift c.args.log_h c.args.l c.requires.below c.requires.rows.fits_u64)

pub layer-requires-clause-size : goal.layer-requires-clause-size
layer-requires-clause-size g c = filled c.args.log_h c.args.l c.args.width _ c.requires.below c.requires.rows

pub layer-requires-else-eq-clause-size : goal.layer-requires-else-eq-clause-size
layer-requires-else-eq-clause-size g c = filled c.args.log_h c.args.l c.args.width _ c.requires.below c.requires.rows

pub layer-requires-clause-in_table : goal.layer-requires-clause-in_table
layer-requires-clause-in_table g c b t p q =
    let field = g.F.Valued in (
      c.requires.table,
      omega (arith, q, done_shift c.args.log_h c.args.l c.requires.below c.requires.rows.fits_u64),
      λ _. ap field.value (sym c.get.ensures) ∙ (g.met.F.Field.eq_law _ _).0 (sym c.eq.ensures ∙ c.if-eq.true)
          ∙ ap field.value c.ONE.ensures ∙ g.met.F.Field.one_law,
    )

pub layer-requires-else-eq-clause-in_table : goal.layer-requires-else-eq-clause-in_table
layer-requires-else-eq-clause-in_table g c b t p q =
    (c.requires.table, omega (arith, q, done_shift c.args.log_h c.args.l c.requires.below c.requires.rows.fits_u64), search rules)

pub returns-then-eq-clause-cells : goal.returns-then-eq-clause-cells
returns-then-eq-clause-cells g c =
    rw (
      done_shift c.args.log_h c.args.l c.requires.below c.requires.rows.fits_u64,
      left_shift c.args.log_h c.args.l c.requires.below c.requires.rows.fits_u64,
    ) at c.layer.ensures.cells

pub returns-else-eq-clause-cells : goal.returns-else-eq-clause-cells
returns-else-eq-clause-cells g c =
    rw (
      done_shift c.args.log_h c.args.l c.requires.below c.requires.rows.fits_u64,
      left_shift c.args.log_h c.args.l c.requires.below c.requires.rows.fits_u64,
    ) at c.layer-else-eq.ensures.cells

pub returns-then-eq-clause-cost : goal.returns-then-eq-clause-cost
returns-then-eq-clause-cost g c = record {
  grows = c.layer.ensures.grows;
  cost =
      rw (
        done_shift c.args.log_h c.args.l c.requires.below c.requires.rows.fits_u64,
        left_shift c.args.log_h c.args.l c.requires.below c.requires.rows.fits_u64,
      ) at c.layer.ensures.cost;
}

pub returns-else-eq-clause-cost : goal.returns-else-eq-clause-cost
returns-else-eq-clause-cost g c = record {
  grows = c.layer-else-eq.ensures.grows;
  cost =
      rw (
        done_shift c.args.log_h c.args.l c.requires.below c.requires.rows.fits_u64,
        left_shift c.args.log_h c.args.l c.requires.below c.requires.rows.fits_u64,
      ) at c.layer-else-eq.ensures.cost;
}
