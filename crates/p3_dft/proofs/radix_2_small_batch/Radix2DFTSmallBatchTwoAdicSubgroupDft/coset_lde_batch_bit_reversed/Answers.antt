use Rattle.p3_dft.proofs.Lemmas.{◌≡◌, ℕ, ◌+◌, ◌^◌, ◌≤◌, inl, refl, sym, ap, ◌∙◌, arith, le_of_eq, le_refl, max, pow-lt, IfOk-from_err, IfOk-weaker}
use Rattle.p3_dft.proofs.Lemmas.{reversed_rows, RowMajor, height, first_of, entries_rise, log_same, EngineState, IsLater, after_error, after_later, lde_of_same}
use Rattle.p3_dft.proofs.Lemmas.{parts_after, answered_shape, extension_of_natural, no_larger, none_above, tabled_facts, extended_table_fits, fits_lde_as}
use Rattle.p3_dft.proofs.Lemmas.{input_fits}
use Rattle.p3_dft.proofs.radix_2_small_batch.Radix2DFTSmallBatchTwoAdicSubgroupDft.coset_lde_batch_bit_reversed.Goals as goal

-- heights were prepared, without a product
only_preparing : {F : Type 0} (t : ℕ → ℕ → ℕ) (x : ℕ → ℕ → ℕ → ℕ) (b : ℕ → ℕ → ℕ) {before after : EngineState}
    → before.prepared ≤ after.prepared → after.products ≡ before.products
    → IsLater (tabled_facts {F = F} t x b) before after
only_preparing t x b keeps none = record {
  keeps = λ k there. omega (arith, there, keeps);
  keeps_cosets = λ k s promised. tt;
  keeps_prepared = λ k there. omega (arith, there, keeps);
  grows = omega (arith, none);
}

-- an engine that was prepared for a bits more than log, and made a call of log
none_above_both : (k log a before prepared inside after : ℕ) → log ≡ k → prepared ≡ max before (log + a)
    → inside ≤ max prepared log → after ≤ max inside (log + a) → after ≤ max before (k + a)
none_above_both k log a before prepared inside after same made more most = omega arith

pub prepare-requires-clause-size : goal.prepare-requires-clause-size
prepare-requires-clause-size g c = pow-lt c.log_height_lde-log_h.ensures.fits_u64

pub coset_lde_batch_of_coefficients_bit_reversed-requires : goal.coset_lde_batch_of_coefficients_bit_reversed-requires
coset_lde_batch_of_coefficients_bit_reversed-requires g c =
    let fits = c.requires.fits in
    let stored = c.into_row_major_matrix-mat.ensures in
    let shape =
    answered_shape c.requires.fits (rw stored at c.in_ok-coefficients.ensures.coefficients) (refl, refl) c.width-width.ensures.whole
    c.requires.shape c.transform-changed.ensures in
    record { fits = fits_lde_as _ _ _ _ _ _ fits shape.0 shape.1 }

pub returns-clause-values : goal.returns-clause-values
returns-clause-values g c =
    let stored = c.into_row_major_matrix-mat.ensures in
    let shape =
    answered_shape c.requires.fits (rw stored at c.in_ok-coefficients.ensures.coefficients) (refl, refl) c.width-width.ensures.whole
    c.requires.shape c.transform-changed.ensures in
    IfOk-weaker c.coset_lde_batch_of_coefficients_bit_reversed.result _ _
    (λ out given. extension_of_natural g.F.Valued g.F.TwoAdicField.generator _
    (g.N.IntoRowMajorMatrix.stored c.args.mat) c.in_ok-coefficients.coefficients c.transform-changed.result
    (reversed_rows out.bits out.physical)
    c.args.added_bits (g.F.Valued.value c.args.shift) (rw (← stored) c.in_ok-coefficients.ensures.coefficients)
    c.width-width.ensures.whole c.width-same_width.ensures.whole c.transform-changed.ensures
    (λ k e. given k (shape.0 ∙ e)))
    c.coset_lde_batch_of_coefficients_bit_reversed.ensures.values

pub returns-clause-engine : goal.returns-clause-engine
returns-clause-engine g c =
    let stored = c.into_row_major_matrix-mat.ensures in
    let shape =
    answered_shape c.requires.fits (rw stored at c.in_ok-coefficients.ensures.coefficients) (refl, refl) c.width-width.ensures.whole
    c.requires.shape c.transform-changed.ensures in
    let kept : c.args.self.now.prepared ≤ c.prepare.new.self.prepared = omega (arith, c.in_ok-prepare.ensures.made) in
    after_later (only_preparing _ _ _ kept c.prepare.ensures.products) c.prepare.ensures.products refl
    (lde_of_same _ stored
    (parts_after c.into_row_major_matrix-mat.result c.transform-changed.result c.args.added_bits
    (shape.0 ∙ ap height (sym stored), shape.1 ∙ ap (λ (m : RowMajor g.row.F.Denot). m.width) (sym stored))
    (λ k. omega (arith, entries_rise k c.args.added_bits c.into_row_major_matrix-mat.result.width))
    c.in_ok-coefficients.ensures.engine c.coset_lde_batch_of_coefficients_bit_reversed.ensures.engine))

pub returns-clause-only : goal.returns-clause-only
returns-clause-only g c k e =
    let stored = c.into_row_major_matrix-mat.ensures in
    let shape =
    answered_shape c.requires.fits (rw stored at c.in_ok-coefficients.ensures.coefficients) (refl, refl) c.width-width.ensures.whole
    c.requires.shape c.transform-changed.ensures in
    let high = c.log_height_lde-log_h.ensures.rows.height in
    let log = c.log_height_lde-log_h.result in
    let same = log_same log k (sym high ∙ ap height stored ∙ e) in
    none_above_both k log c.args.added_bits _ _ _ _ same c.in_ok-prepare.ensures.made
    (none_above (λ (e : EngineState). e.prepared) c.idft_batch.result _ _ _ (c.idft_batch.ensures.made _ high)
    c.idft_batch.ensures.refused)
    (c.coset_lde_batch_of_coefficients_bit_reversed.ensures.only log (shape.0 ∙ e ∙ ap (λ n. 2 ^ n) (sym same)))

pub idft_batch-requires : goal.idft_batch-requires
idft_batch-requires g c = record { fits = rw c.into_row_major_matrix-mat.ensures (input_fits _ _ _ _ c.requires.fits) }

pub transform-changed-requires : goal.transform-changed-requires
transform-changed-requires g c =
    let are = c.in_ok-coefficients.ensures.coefficients.holds _ c.log_height_lde-log_h.ensures.rows.height in
    c.requires.callable c.in_ok-coefficients.coefficients c.width-width.ensures.whole
    (rw (← c.into_row_major_matrix-mat.ensures) (are.height, are.width))

pub returns-in_err-prepare : goal.returns-in_err-prepare
returns-in_err-prepare g c = rw (← c.into_row_major_matrix-mat.ensures) (
    let rows = c.log_height_lde-log_h.ensures.rows in
    let same = ap (λ (e : EngineState). e.prepared) c.in_err-prepare.ensures.refused in
    record {
      values = IfOk-from_err _ _ c.from_residual.ensures.0;
      only = λ k e. no_larger _ _ _ (inl same);
      engine =
          after_error c.from_residual.ensures.0
          (only_preparing _ _ _ (le_of_eq (sym same)) c.prepare.ensures.products) c.prepare.ensures.products (omega arith)
          (first_of _ _ _ _ (le_refl _) (extended_table_fits _ _ rows.whole.width rows.height) _ _ c.from_residual.result _
          c.from_residual.ensures c.in_err-prepare.ensures.room);
    })
