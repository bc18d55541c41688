use Rattle.p3_dft.proofs.Lemmas.{ℕ, ◌≡◌, ◌+◌, ◌^◌, ◌∙◌, refl, sym, arith, le_refl, ap, IfOk-from_err, IfOk-weaker, HasShapeOf, height, first_of, padded_shape}
use Rattle.p3_dft.proofs.Lemmas.{EngineState, after_part, extended_after, part_refused, parts_after, products_after, answered_shape, extension_of_shifted}
use Rattle.p3_dft.proofs.Lemmas.{none_above, fewer_entries, input_fits, output_fits, output_log_small, output_size, same_extended}
use Rattle.p3_dft.proofs.radix_2_dit.Radix2DitTwoAdicSubgroupDft.coset_lde_batch_with_transform.Given as given
use Rattle.p3_dft.proofs.radix_2_dit.Radix2DitTwoAdicSubgroupDft.coset_lde_batch_with_transform.Goals.{After-transform-changed}
use Rattle.p3_dft.proofs.radix_2_dit.Radix2DitTwoAdicSubgroupDft.coset_lde_batch_with_transform.Goals as goal

pub idft_batch-requires : goal.idft_batch-requires
idft_batch-requires g c = record { fits = input_fits _ _ _ _ c.requires.fits }

pub pad_rows-requires-clause-bits : goal.pad_rows-requires-clause-bits
pad_rows-requires-clause-bits g c = let small = output_log_small _ _ _ _ c.requires.fits in omega arith

-- what the transform answers has the input's shape
shape : (g : given.Over) (c : After-transform-changed g)
    → HasShapeOf c.transform-changed.result (g.N.IntoRowMajorMatrix.stored c.args.mat)
shape g c =
    answered_shape c.requires.fits c.in_ok-coefficients.ensures.coefficients (refl, refl) c.width-width.ensures.whole
    c.requires.shape c.transform-changed.ensures

pub pad_rows-requires-clause-size : goal.pad_rows-requires-clause-size
pad_rows-requires-clause-size g c =
    let kept = shape g (goal.at.pad_rows-requires-clause-size g c).After-transform-changed in
    let same = c.shift_rows.ensures.shifted in
    rw (same.height ∙ kept.0, same.width ∙ kept.1) (output_size _ _ _ _ c.requires.fits)

pub dft_batch-requires : goal.dft_batch-requires
dft_batch-requires g c =
    let fits = c.requires.fits in
    let kept = shape g (goal.at.dft_batch-requires g c).After-transform-changed in
    let same = c.shift_rows.ensures.shifted in
    let grown = padded_shape g.F.Valued.zero (g.N.IntoRowMajorMatrix.stored c.args.mat) c.shift_rows.new.mat
    c.in_ok-padded.padded c.args.added_bits fits.log c.pad_rows.ensures.whole
    (same.height ∙ kept.0, same.width ∙ kept.1) fits.height c.in_ok-padded.ensures.padded in
    record { fits = output_fits _ _ _ _ _ _ fits grown.0 grown.1 }

pub returns-clause-values : goal.returns-clause-values
returns-clause-values g c =
    let kept = shape g (goal.at.returns-clause-values g c).After-transform-changed in
    IfOk-weaker c.dft_batch.result _ _
    (λ out given.
    extension_of_shifted g.F.Valued g.F.TwoAdicField.generator
    (ap g.F.Valued.value (sym g.met.F.Field.same_zero) ∙ g.met.F.Field.zero_law) _
    (g.N.IntoRowMajorMatrix.stored c.args.mat)
    c.in_ok-coefficients.coefficients c.transform-changed.result c.shift_rows.new.mat out c.args.added_bits (g.F.Valued.value c.args.shift)
    c.in_ok-coefficients.ensures.coefficients c.width-width.ensures.whole c.shift_rows.ensures.whole c.transform-changed.ensures
    kept.0 c.shift_rows.ensures.shifted c.pad_rows.ensures.whole (rw c.in_ok-padded.ensures.padded at given))
    c.dft_batch.ensures.values

pub returns-in_err-coefficients-clause-engine : goal.returns-in_err-coefficients-clause-engine
returns-in_err-coefficients-clause-engine g c =
    part_refused c.from_residual.ensures (λ k. omega arith) (fewer_entries _ _) (omega arith) c.in_err-coefficients.ensures.engine

pub returns-clause-only : goal.returns-clause-only
returns-clause-only g c = λ k e.
    let a = c.args.added_bits in
    let kept = shape g (goal.at.returns-clause-only g c).After-transform-changed in
    let same = c.shift_rows.ensures.shifted in
    let grown = padded_shape g.F.Valued.zero (g.N.IntoRowMajorMatrix.stored c.args.mat) c.shift_rows.new.mat
    c.in_ok-padded.padded a k c.pad_rows.ensures.whole (same.height ∙ kept.0, same.width ∙ kept.1) e c.in_ok-padded.ensures.padded in
    omega (
      arith,
      c.in_ok-coefficients.ensures.made k e,
      (c.add_products.ensures.engine.same _).1 (le_refl _),
      none_above (λ (e : EngineState). e.prepared) c.dft_batch.result _ _ _
          (c.dft_batch.ensures.made (k + a) grown.0) c.dft_batch.ensures.refused,
    )

pub returns-clause-engine : goal.returns-clause-engine
returns-clause-engine g c =
    let fits = c.requires.fits in
    let changed = c.transform-changed.result in
    let kept = shape g (goal.at.returns-clause-engine g c).After-transform-changed in
    let same = c.shift_rows.ensures.shifted in
    let grown = λ (k : ℕ) (e : height changed ≡ 2 ^ k). padded_shape g.F.Valued.zero changed c.shift_rows.new.mat
    c.in_ok-padded.padded c.args.added_bits k c.pad_rows.ensures.whole (same.height, same.width) e c.in_ok-padded.ensures.padded in
    let high = kept.0 ∙ fits.height in
    parts_after (g.N.IntoRowMajorMatrix.stored c.args.mat) changed c.args.added_bits kept (λ k. omega arith)
    c.in_ok-coefficients.ensures.engine
    (extended_after changed c.in_ok-padded.padded c.args.added_bits fits.log high (λ k e. (grown k e).0)
    (grown fits.log high).1 (omega (arith, c.shift_rows.ensures.cost, c.new-products.ensures))
    c.add_products.ensures.engine c.dft_batch.ensures.engine)

pub transform-changed-requires : goal.transform-changed-requires
transform-changed-requires g c =
    let are = c.in_ok-coefficients.ensures.coefficients.holds c.requires.fits.log c.requires.fits.height in
    c.requires.callable c.in_ok-coefficients.coefficients c.width-width.ensures.whole (are.height, are.width)

pub returns-in_err-padded : goal.returns-in_err-padded
returns-in_err-padded g c =
    record {
      values = IfOk-from_err _ _ c.from_residual-in_err-padded.ensures.0;
      only = λ k e. omega (arith, c.in_ok-coefficients.ensures.made k e, (c.add_products.ensures.engine.same _).1 (le_refl _));
      engine =
          let kept = shape g (goal.at.returns-in_err-padded g c).After-transform-changed in
          let same = c.shift_rows.ensures.shifted in
          after_part c.from_residual-in_err-padded.ensures.0 (λ k. omega arith) (omega arith)
          (first_of _ _ _ _ (le_refl _) (same_extended c.args.added_bits (same.height ∙ kept.0) (same.width ∙ kept.1)) _ _
          c.from_residual-in_err-padded.result _ c.from_residual-in_err-padded.ensures c.in_err-padded.ensures.room)
          (products_after {w = c.transform-changed.result} 1 (g.N.IntoRowMajorMatrix.stored c.args.mat) c.transform-changed.result kept
          (omega (arith, c.shift_rows.ensures.cost, c.new-products.ensures)) c.in_ok-coefficients.ensures.engine
          c.add_products.ensures.engine);
    }
