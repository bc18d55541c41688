use Rattle.p3_dft.proofs.Lemmas.{◌∙◌, arith, sym, transform_of_row, after_dft, transform_by_reversal}
use Rattle.p3_dft.proofs.radix_2_bowers.Radix2BowersTwoAdicSubgroupDft.dft_batch.Goals as goal

pub returns-then-height-eq1-clause-values : goal.returns-then-height-eq1-clause-values
returns-then-height-eq1-clause-values g c =
    rw (← c.into_row_major_matrix-mat.ensures) (transform_of_row g.F.Valued g.F.TwoAdicField.generator
    c.into_row_major_matrix-mat.result (sym c.height.ensures.height ∙ c.if-height-eq1.true))

pub returns-clause-values : goal.returns-clause-values
returns-clause-values g c =
    let power = c.log_height-log_h.ensures.power in
    transform_by_reversal g.F.Valued g.F.TwoAdicField.generator c.log_height-log_h.result c.into_row_major_matrix-mat.ensures power
    c.reverse_rows.new.mat c.evaluate_to_natural.new.mat (c.reverse_rows.ensures.rows c.log_height-log_h.result power)
    c.in_ok-evaluate_to_natural.ensures.values

pub returns-clause-engine : goal.returns-clause-engine
returns-clause-engine g c =
    after_dft c.into_row_major_matrix-mat.ensures c.self.view_is _ c.log_height-log_h.ensures.power c.reverse_rows.new.mat _ 0
    c.reverse_rows.ensures.shape c.evaluate_to_natural.ensures.grows (omega (arith, c.evaluate_to_natural.ensures.cost))
