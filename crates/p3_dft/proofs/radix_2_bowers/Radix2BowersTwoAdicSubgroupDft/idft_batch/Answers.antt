use Rattle.p3_dft.proofs.Lemmas.{refl, ◌∙◌, sym, arith, interpolation_of_row, after_dft, interpolation_by_reversal}
use Rattle.p3_dft.proofs.radix_2_bowers.Radix2BowersTwoAdicSubgroupDft.idft_batch.Goals as goal

pub returns-then-height-eq1-clause-coefficients : goal.returns-then-height-eq1-clause-coefficients
returns-then-height-eq1-clause-coefficients g c =
    rw (← c.into_row_major_matrix-mat.ensures) (interpolation_of_row g.F.Valued g.F.TwoAdicField.generator
    g.met.F.TwoAdicField.roots_law c.into_row_major_matrix-mat.result
    (rw c.into_row_major_matrix-mat.ensures c.requires.fits) (sym c.height.ensures.height ∙ c.if-height-eq1.true))

pub returns-clause-coefficients : goal.returns-clause-coefficients
returns-clause-coefficients g c =
    let tall = c.interpolate_to_reversed.ensures.same.shape.0 ∙ c.log_height-log_h.ensures.power in
    interpolation_by_reversal g.F.Valued g.F.TwoAdicField.generator c.log_height-log_h.result c.into_row_major_matrix-mat.ensures
    c.log_height-log_h.ensures.power g.met.F.TwoAdicField.roots_law c.interpolate_to_reversed.new.mat c.reverse_rows.new.mat
    c.log_height-log_h.ensures.within (c.reverse_rows.ensures.rows c.log_height-log_h.result tall)
    c.in_ok-interpolate_to_reversed.ensures.coefficients

pub returns-clause-engine : goal.returns-clause-engine
returns-clause-engine g c =
    after_dft c.into_row_major_matrix-mat.ensures c.self.view_is _ c.log_height-log_h.ensures.power c.into_row_major_matrix-mat.result _ 1
    (refl, refl) c.interpolate_to_reversed.ensures.grows (omega (arith, c.interpolate_to_reversed.ensures.cost))
