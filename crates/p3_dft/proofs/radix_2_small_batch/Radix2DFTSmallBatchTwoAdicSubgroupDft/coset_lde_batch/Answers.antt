use Rattle.p3_dft.proofs.Lemmas.{◌≡◌, ◌+◌, ◌^◌, refl, ap, ◌∙◌, arith, le_refl, le_trans, le-add_right, IfOk-from_err, IfOk-weaker, count, count-power_of_two}
use Rattle.p3_dft.proofs.Lemmas.{bit_reversal, image, coset_shift, values_of, coset_values, shifted_quotient, if_first, more_points, fewer_from_start}
use Rattle.p3_dft.proofs.Lemmas.{extension_of_coefficients, extension_of_row, larger_bound, after_none, later_with_heights, no_larger, tables_refused}
use Rattle.p3_dft.proofs.Lemmas.{both_none, same_extended, at_log, rows_still}
use Rattle.p3_networks.proofs.Layers.Counts.{extension_made, fewer_than_parts}
use Rattle.p3_dft.proofs.radix_2_small_batch.Radix2DFTSmallBatchTwoAdicSubgroupDft.coset_lde_batch.Goals as goal

pub interpolate_unscaled_to_reversed-requires-clause-twiddles : goal.interpolate_unscaled_to_reversed-requires-clause-twiddles
interpolate_unscaled_to_reversed-requires-clause-twiddles g c =
    fewer_from_start g.F.Valued _ _ _ _ (le_trans (le-add_right _ _) c.in_ok-make.ensures.made) c.backward-backward.ensures.table

pub extend_to_natural-requires-clause-rows : goal.extend_to_natural-requires-clause-rows
extend_to_natural-requires-clause-rows g c =
    rows_still _ _ _ c.log_height_lde-log_h.ensures.rows c.interpolate_unscaled_to_reversed.ensures.same

pub extend_to_natural-requires-clause-size : goal.extend_to_natural-requires-clause-size
extend_to_natural-requires-clause-size g c =
    let shape = c.interpolate_unscaled_to_reversed.ensures.same.shape in
    rw (shape.0, shape.1) c.log_height_lde-log_h.ensures.size

pub extend_to_natural-requires-clause-twiddles : goal.extend_to_natural-requires-clause-twiddles
extend_to_natural-requires-clause-twiddles g c =
    fewer_from_start g.F.Valued _ _ _ _ c.in_ok-make.ensures.made c.forward-forward.ensures.table

pub returns-then-log_h-added_bits-eq0-clause-values : goal.returns-then-log_h-added_bits-eq0-clause-values
returns-then-log_h-added_bits-eq0-clause-values g c =
    let none = both_none _ _ c.if-log_h-added_bits-eq0.true in
    rw (← c.into_row_major_matrix-mat.ensures) (extension_of_row g.F.Valued g.F.TwoAdicField.generator
    c.into_row_major_matrix-mat.result c.args.added_bits (g.F.Valued.value c.args.shift)
    (c.log_height_lde-log_h.ensures.rows.height ∙ ap (λ n. 2 ^ n) none.0) none.1)

pub returns-then-log_h-added_bits-eq0-clause-engine : goal.returns-then-log_h-added_bits-eq0-clause-engine
returns-then-log_h-added_bits-eq0-clause-engine g c =
    let none = both_none _ _ c.if-log_h-added_bits-eq0.true in
    rw (← c.into_row_major_matrix-mat.ensures)
    (after_none (λ _. at_log _ _ _ c.log_height_lde-log_h.ensures.rows.height (omega (arith, none.0), omega (arith, none.0, none.1))))

pub returns-in_err-make : goal.returns-in_err-make
returns-in_err-make g c = rw (← c.self.view_is, ← c.into_row_major_matrix-mat.ensures) (
    let rows = c.log_height_lde-log_h.ensures.rows in
    record {
      values = IfOk-from_err _ _ c.from_residual.ensures.0;
      one_row = λ one none. absurd (more_points _ _ c.args.added_bits rows.height c.if-log_h-added_bits-eq0.false one none);
      only = at_log _ _ _ rows.height (no_larger _ _ _ c.make.ensures.only);
      engine =
          tables_refused _ c.args.added_bits _ c.from_residual.ensures c.make.ensures.keeps
          rows.whole.width rows.height c.in_err-make.ensures.room;
      fewer = λ k high. le-add_right _ _;
    })

-- The inverse leaves the coefficients times the height, in bit reversed order. The network that extends them divides by
-- it: its scale is the inverse of the height.
pub returns : goal.returns
returns g c = rw (← c.self.view_is, ← c.into_row_major_matrix-mat.ensures) (
    let field = g.F.Valued in
    let log = c.log_height_lde-log_h.result in
    let rows = c.log_height_lde-log_h.ensures.rows in
    let m = c.into_row_major_matrix-mat.result in
    let a = c.args.added_bits in
    let s = field.value c.args.shift in
    let inverse = field.value c.div_2exp_u64-scale.result in
    let undone : field.ring.mul (count field.ring (2 ^ log)) inverse ≡ field.ring.one =
    ap (λ x. field.ring.mul x inverse) (count-power_of_two field.ring log) ∙ c.div_2exp_u64-scale.ensures
    ∙ ap field.value c.ONE.ensures ∙ g.met.F.Field.one_law in
    let multiples = bit_reversal log (values_of field c.interpolate_unscaled_to_reversed.new.mat) in
    let shifted = image (λ x. field.ring.mul x inverse) (coset_shift field.ring s multiples) in
    let (d, quotient, on_coset) =
    shifted_quotient field.ring (2 ^ log) inverse s multiples shifted undone
    (record { height = refl; width = refl; alike = λ i j p q. refl }) in
    let shape = c.interpolate_unscaled_to_reversed.ensures.same.shape in
    let made =
    extension_made _ _ _ _ _ _ _ c.interpolate_unscaled_to_reversed.ensures.cost (rw shape.1 at c.extend_to_natural.ensures.cost) in
    record {
      values = IfOk-weaker c.extend_to_natural.result _ _ (λ out given. extension_of_coefficients
          field g.F.TwoAdicField.generator m out d a log s rows.height
          (c.interpolate_unscaled_to_reversed.ensures.coefficients d quotient) (coset_values field.ring
          (λ n. field.value (g.F.TwoAdicField.generator n)) d shifted (log + a) s (values_of field out) on_coset given))
          c.extend_to_natural.ensures.values;
      one_row = λ one none. absurd (more_points _ _ a rows.height c.if-log_h-added_bits-eq0.false one none);
      only = at_log _ _ _ rows.height (no_larger _ _ _ c.make.ensures.only);
      engine = record {
        later =
            later_with_heights refl c.make.ensures.keeps
            (le_trans c.interpolate_unscaled_to_reversed.ensures.grows c.extend_to_natural.ensures.grows);
        prepared = λ done. at_log _ _ _ rows.height (le_trans (le-add_right _ _) c.in_ok-make.ensures.made, c.in_ok-make.ensures.made);
        cost = at_log _ _ _ rows.height (larger_bound _ _ _ _ made (fewer_than_parts log a _));
        tables = omega arith;
        refused =
            if_first _ _ _ _ (le_refl _) (same_extended a shape.0 shape.1) _ _ c.extend_to_natural.result
            c.extend_to_natural.ensures.room;
      };
      fewer = at_log _ _ _ rows.height made;
    })
