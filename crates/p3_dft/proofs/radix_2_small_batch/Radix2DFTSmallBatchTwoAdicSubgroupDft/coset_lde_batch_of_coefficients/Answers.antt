use Rattle.p3_dft.proofs.Lemmas.{◌≡◌, ℕ, ◌+◌, ◌^◌, ap, ◌∙◌, refl, subst, arith, le_refl, le-add_right, IfOk-from_err, IfOk-weaker, IsValues, values_of}
use Rattle.p3_dft.proofs.Lemmas.{RowMajor, height, coset_values, if_first, fewer_from_start, EngineState, extension_of_reversed, larger_bound, points_within}
use Rattle.p3_dft.proofs.Lemmas.{extended_after, later_with_heights, no_larger, none_above, tables_refused, same_extended, at_log, rows_still}
use Rattle.p3_dft.proofs.radix_2_small_batch.Radix2DFTSmallBatchTwoAdicSubgroupDft.coset_lde_batch_of_coefficients.Goals as goal

pub extend_to_natural-requires-clause-rows : goal.extend_to_natural-requires-clause-rows
extend_to_natural-requires-clause-rows g c =
    rows_still _ _ _ c.log_height_lde-log_h.ensures.rows (record { shape = c.reverse_rows.ensures.shape; size = c.reverse_rows.ensures.size })

pub extend_to_natural-requires-clause-size : goal.extend_to_natural-requires-clause-size
extend_to_natural-requires-clause-size g c =
    rw (c.reverse_rows.ensures.shape.0, c.reverse_rows.ensures.shape.1) c.log_height_lde-log_h.ensures.size

pub extend_to_natural-requires-clause-twiddles : goal.extend_to_natural-requires-clause-twiddles
extend_to_natural-requires-clause-twiddles g c =
    fewer_from_start g.F.Valued _ _ _ _ c.in_ok-make.ensures.made c.forward-forward.ensures.table

pub returns-then-added_bits-eq0-clause-values : goal.returns-then-added_bits-eq0-clause-values
returns-then-added_bits-eq0-clause-values g c =
    let field = g.F.Valued in
    let gen = λ (n : ℕ). field.value (g.F.TwoAdicField.generator n) in
    let m = c.into_row_major_matrix-mat.result in
    let s = field.value c.args.shift in
    let same = c.shift_rows.ensures.shifted in
    rw (← c.into_row_major_matrix-mat.ensures)
    (IfOk-weaker c.dft_batch.result _ _
    (λ out given k e.
    let all : k ≡ k + c.args.added_bits = omega (arith, c.if-added_bits-eq0.true) in
    subst (λ (n : ℕ). IsValues field.ring gen (values_of field m) n s (values_of field out)) all
    (coset_values field.ring gen (values_of field m) (values_of field c.shift_rows.new.mat) k s (values_of field out) same (given k (same.height ∙ e))))
    c.dft_batch.ensures.values)

pub returns-then-added_bits-eq0-clause-only : goal.returns-then-added_bits-eq0-clause-only
returns-then-added_bits-eq0-clause-only g c k e =
    let high = c.shift_rows.ensures.shifted.height ∙ ap height c.into_row_major_matrix-mat.ensures ∙ e in
    omega (
      arith,
      c.if-added_bits-eq0.true,
      (c.add_products.ensures.engine.same _).1 (le_refl _),
      none_above (λ (e : EngineState). e.prepared) c.dft_batch.result _ _ k (c.dft_batch.ensures.made k high)
          c.dft_batch.ensures.refused,
    )

pub returns-then-added_bits-eq0-clause-engine : goal.returns-then-added_bits-eq0-clause-engine
returns-then-added_bits-eq0-clause-engine g c =
    let fits = c.requires.fits in
    let same = c.shift_rows.ensures.shifted in
    let stored = c.into_row_major_matrix-mat.ensures in
    let all = λ (k : ℕ). let e : k ≡ k + c.args.added_bits = omega (arith, c.if-added_bits-eq0.true) in e in
    extended_after (g.N.IntoRowMajorMatrix.stored c.args.mat) c.shift_rows.new.mat c.args.added_bits
    fits.log fits.height (λ k e. same.height ∙ ap height stored ∙ e ∙ ap (λ n. 2 ^ n) (all k))
    (same.width ∙ ap (λ (m : RowMajor g.row.F.Denot). m.width) stored)
    (rw (← stored) (omega (arith, c.shift_rows.ensures.cost, c.new-products.ensures))) c.add_products.ensures.engine
    c.dft_batch.ensures.engine

pub returns-in_err-make : goal.returns-in_err-make
returns-in_err-make g c = rw (← c.self.view_is, ← c.into_row_major_matrix-mat.ensures) (
    let rows = c.log_height_lde-log_h.ensures.rows in
    record {
      values = IfOk-from_err _ _ c.from_residual.ensures.0;
      only = at_log _ _ _ rows.height (no_larger _ _ _ c.make.ensures.only);
      engine =
          tables_refused _ c.args.added_bits _ c.from_residual.ensures c.make.ensures.keeps
          rows.whole.width rows.height c.in_err-make.ensures.room;
      fewer = λ k high. le-add_right _ _;
    })

pub returns : goal.returns
returns g c = rw (← c.self.view_is, ← c.into_row_major_matrix-mat.ensures) (
    let field = g.F.Valued in
    let log = c.log_height_lde-log_h.result in
    let rows = c.log_height_lde-log_h.ensures.rows in
    let a = c.args.added_bits in
    let shape = c.reverse_rows.ensures.shape in
    let made = rw shape.1 at c.extend_to_natural.ensures.cost in
    record {
      values = IfOk-weaker c.extend_to_natural.result _ _
          (λ out given. extension_of_reversed field g.F.TwoAdicField.generator c.into_row_major_matrix-mat.result
          c.reverse_rows.new.mat out c.ONE.result a log (field.value c.args.shift)
          (ap field.value c.ONE.ensures ∙ g.met.F.Field.one_law) rows.height
          (c.reverse_rows.ensures.rows log rows.height) given)
          c.extend_to_natural.ensures.values;
      only = at_log _ _ _ rows.height (no_larger _ _ _ c.make.ensures.only);
      engine = record {
        later = later_with_heights refl c.make.ensures.keeps c.extend_to_natural.ensures.grows;
        prepared = λ done. at_log _ _ _ rows.height c.in_ok-make.ensures.made;
        cost = at_log _ _ _ rows.height (larger_bound _ _ _ _ made (points_within log a _));
        tables = omega arith;
        refused =
            if_first _ _ _ _ (le_refl _) (same_extended a shape.0 shape.1) _ _ c.extend_to_natural.result
            c.extend_to_natural.ensures.room;
      };
      fewer = at_log _ _ _ rows.height made;
    })
