use Rattle.p3_dft.proofs.Lemmas.{◌≡◌, ◌^◌, ap, ◌∙◌, arith, le-add_right, le_trans, IfOk-weaker, count, count-power_of_two, height, more_points}
use Rattle.p3_dft.proofs.Lemmas.{extension_of_row, after_lde, inverse_refused, both_logs_fit, both_none, extension_by_scale}
use Rattle.p3_dft.proofs.radix_2_bowers.Radix2BowersTwoAdicSubgroupDft.coset_lde_batch.Goals as goal

pub overflow_add-log_h : goal.overflow_add-log_h
overflow_add-log_h g c =
    omega (arith, (both_logs_fit _ _ c.requires.fits c.log_height-log_h.ensures.power (ap height c.into_row_major_matrix-mat.ensures)).3)

pub returns-then-log_h-added_bits-eq0-clause-values : goal.returns-then-log_h-added_bits-eq0-clause-values
returns-then-log_h-added_bits-eq0-clause-values g c =
    let none = both_none c.log_height-log_h.result c.args.added_bits c.if-log_h-added_bits-eq0.true in
    rw (← c.into_row_major_matrix-mat.ensures) (extension_of_row g.F.Valued g.F.TwoAdicField.generator
    c.into_row_major_matrix-mat.result c.args.added_bits (g.F.Valued.value c.args.shift)
    (c.log_height-log_h.ensures.power ∙ ap (λ n. 2 ^ n) none.0) none.1)

pub returns-in_err-interpolate_unscaled_to_reversed-clause-one_row : goal.returns-in_err-interpolate_unscaled_to_reversed-clause-one_row
returns-in_err-interpolate_unscaled_to_reversed-clause-one_row g c =
    λ one none. absurd (more_points _ _ _ c.log_height-log_h.ensures.power c.if-log_h-added_bits-eq0.false
    (ap height c.into_row_major_matrix-mat.ensures ∙ one) none)

pub returns-in_err-interpolate_unscaled_to_reversed-clause-engine : goal.returns-in_err-interpolate_unscaled_to_reversed-clause-engine
returns-in_err-interpolate_unscaled_to_reversed-clause-engine g c =
    inverse_refused c.into_row_major_matrix-mat.ensures c.self.view_is _ c.args.added_bits _ c.from_residual.result
    c.from_residual.ensures c.in_err-interpolate_unscaled_to_reversed.ensures.refused c.in_err-interpolate_unscaled_to_reversed.ensures.room

pub returns : goal.returns
returns g c =
    let field = g.F.Valued in
    let k = c.log_height-log_h.result in
    let scale = field.value c.div_2exp_u64-scale.result in
    let undone : field.ring.mul (count field.ring (2 ^ k)) scale ≡ field.ring.one =
    ap (λ x. field.ring.mul x scale) (count-power_of_two field.ring k) ∙ c.div_2exp_u64-scale.ensures
    ∙ ap field.value c.ONE.ensures ∙ g.met.F.Field.one_law in
    record {
      values =
          IfOk-weaker c.extend_to_natural.result _ _ (λ out given. extension_by_scale field g.F.TwoAdicField.generator k
          c.into_row_major_matrix-mat.ensures c.log_height-log_h.ensures.power out _ scale (field.value c.args.shift)
          c.args.added_bits undone c.in_ok-interpolate_unscaled_to_reversed.ensures.coefficients given)
          c.extend_to_natural.ensures.values;
      one_row =
          λ one none. absurd (more_points _ _ _ c.log_height-log_h.ensures.power c.if-log_h-added_bits-eq0.false
          (ap height c.into_row_major_matrix-mat.ensures ∙ one) none);
      engine =
          after_lde c.into_row_major_matrix-mat.ensures c.self.view_is _ c.log_height-log_h.ensures.power
          c.interpolate_unscaled_to_reversed.new.mat c.interpolate_unscaled_to_reversed.new.products _ c.args.added_bits
          c.extend_to_natural.result c.interpolate_unscaled_to_reversed.ensures.same.shape
          c.interpolate_unscaled_to_reversed.ensures.grows
          (le_trans c.interpolate_unscaled_to_reversed.ensures.cost (le-add_right _ _))
          c.extend_to_natural.ensures.grows c.extend_to_natural.ensures.cost c.extend_to_natural.ensures.room;
    }
