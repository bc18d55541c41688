use Rattle.p3_dft.proofs.Lemmas.{◌^◌, ap, ◌∙◌, refl, arith, IfOk-weaker, height, more_points, extension_of_told_row, after_lde, inverse_refused, both_logs_fit}
use Rattle.p3_dft.proofs.Lemmas.{both_none, whole_still}
use Rattle.p3_dft.proofs.NetworkG.{changed_shape, extension_of_changed, fits_lde_still, shape_still}
use Rattle.p3_dft.proofs.radix_2_bowers.Radix2BowersTwoAdicSubgroupDft.coset_lde_batch_with_transform.Goals as goal

pub overflow_add-log_h : goal.overflow_add-log_h
overflow_add-log_h g c =
    omega (arith, (both_logs_fit _ _ c.requires.fits c.log_height-log_h.ensures.power (ap height c.into_row_major_matrix-mat.ensures)).3)

pub transform-changed-requires : goal.transform-changed-requires
transform-changed-requires g c =
    c.requires.callable c.interpolate_to_reversed.new.mat
    (whole_still c.into_row_major_matrix-mat.result _ c.log_height-log_h.ensures.rows.whole c.interpolate_to_reversed.ensures.same)
    (shape_still _ c.into_row_major_matrix-mat.ensures c.interpolate_to_reversed.ensures.same.shape)

pub extend_to_natural-requires-clause-rows : goal.extend_to_natural-requires-clause-rows
extend_to_natural-requires-clause-rows g c =
    let shape =
    changed_shape c.interpolate_to_reversed.new.mat c.into_row_major_matrix-mat.ensures c.transform-changed.result
    c.log_height-log_h.ensures.rows.whole c.interpolate_to_reversed.ensures.same c.requires.shape c.transform-changed.ensures in
    record {
      whole = c.width-same_width.ensures.whole;
      height = shape.0 ∙ c.log_height-log_h.ensures.power;
      fits_u64 = c.log_height-log_h.ensures.rows.fits_u64;
    }

pub extend_to_natural-requires-clause-fits : goal.extend_to_natural-requires-clause-fits
extend_to_natural-requires-clause-fits g c =
    fits_lde_still c.transform-changed.result c.into_row_major_matrix-mat.ensures c.args.added_bits
    (changed_shape c.interpolate_to_reversed.new.mat c.into_row_major_matrix-mat.ensures c.transform-changed.result
    c.log_height-log_h.ensures.rows.whole c.interpolate_to_reversed.ensures.same c.requires.shape c.transform-changed.ensures)
    c.requires.fits

pub returns-then-log_h-added_bits-eq0-clause-values : goal.returns-then-log_h-added_bits-eq0-clause-values
returns-then-log_h-added_bits-eq0-clause-values g c =
    let m = c.into_row_major_matrix-mat.result in
    let whole = c.log_height-log_h.ensures.rows.whole in
    let none = both_none c.log_height-log_h.result c.args.added_bits c.if-log_h-added_bits-eq0.true in
    let shape =
    changed_shape m c.into_row_major_matrix-mat.ensures c.transform-row.result whole (record { shape = (refl, refl); size = refl })
    c.requires.shape c.transform-row.ensures in
    rw (← c.into_row_major_matrix-mat.ensures) (extension_of_told_row g.F.Valued g.F.TwoAdicField.generator _ m
    c.transform-row.result c.args.added_bits (g.F.Valued.value c.args.shift)
    (c.log_height-log_h.ensures.power ∙ ap (λ n. 2 ^ n) none.0) none.1 whole c.width-width.ensures.whole
    c.transform-row.ensures shape.0)

pub returns-in_err-interpolate_to_reversed-clause-one_row : goal.returns-in_err-interpolate_to_reversed-clause-one_row
returns-in_err-interpolate_to_reversed-clause-one_row g c =
    λ one none. absurd (more_points _ _ _ c.log_height-log_h.ensures.power c.if-log_h-added_bits-eq0.false
    (ap height c.into_row_major_matrix-mat.ensures ∙ one) none)

pub returns-in_err-interpolate_to_reversed-clause-engine : goal.returns-in_err-interpolate_to_reversed-clause-engine
returns-in_err-interpolate_to_reversed-clause-engine g c =
    inverse_refused c.into_row_major_matrix-mat.ensures c.self.view_is _ c.args.added_bits _ c.from_residual.result
    c.from_residual.ensures c.in_err-interpolate_to_reversed.ensures.refused c.in_err-interpolate_to_reversed.ensures.room

pub returns : goal.returns
returns g c =
    let field = g.F.Valued in
    let whole = c.log_height-log_h.ensures.rows.whole in
    let shape =
    changed_shape c.interpolate_to_reversed.new.mat c.into_row_major_matrix-mat.ensures c.transform-changed.result whole
    c.interpolate_to_reversed.ensures.same c.requires.shape c.transform-changed.ensures in
    record {
      values =
          IfOk-weaker c.extend_to_natural.result _ _ (λ out given. extension_of_changed field g.F.TwoAdicField.generator
          c.log_height-log_h.result c.into_row_major_matrix-mat.ensures c.log_height-log_h.ensures.power _
          c.interpolate_to_reversed.new.mat c.transform-changed.result out (field.value c.ONE.result)
          (field.value c.args.shift) c.args.added_bits (ap field.value c.ONE.ensures ∙ g.met.F.Field.one_law)
          c.in_ok-interpolate_to_reversed.ensures.coefficients whole c.interpolate_to_reversed.ensures.same
          c.width-same_width.ensures.whole c.transform-changed.ensures shape given) c.extend_to_natural.ensures.values;
      one_row =
          λ one none. absurd (more_points _ _ _ c.log_height-log_h.ensures.power c.if-log_h-added_bits-eq0.false
          (ap height c.into_row_major_matrix-mat.ensures ∙ one) none);
      engine =
          after_lde c.into_row_major_matrix-mat.ensures c.self.view_is _ c.log_height-log_h.ensures.power
          c.transform-changed.result c.interpolate_to_reversed.new.products _ c.args.added_bits
          c.extend_to_natural.result shape c.interpolate_to_reversed.ensures.grows c.interpolate_to_reversed.ensures.cost
          c.extend_to_natural.ensures.grows c.extend_to_natural.ensures.cost c.extend_to_natural.ensures.room;
    }
