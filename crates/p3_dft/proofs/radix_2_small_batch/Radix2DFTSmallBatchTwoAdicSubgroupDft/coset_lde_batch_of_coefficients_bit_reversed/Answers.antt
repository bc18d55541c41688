use Rattle.p3_dft.proofs.Lemmas.{◌+◌, ◌∙◌, refl, arith, le-add_right, le_trans, IfOk-from_err, values_of, padded_shape, fewer_from_start, values_seen}
use Rattle.p3_dft.proofs.Lemmas.{larger_bound, slots_within, later_with_heights, no_larger, tables_refused, at_log, rows_padded, whole_still}
use Rattle.p3_dft.proofs.radix_2_small_batch.Radix2DFTSmallBatchTwoAdicSubgroupDft.coset_lde_batch_of_coefficients_bit_reversed.Goals as goal

pub extend_to_reversed-requires-clause-twiddles : goal.extend_to_reversed-requires-clause-twiddles
extend_to_reversed-requires-clause-twiddles g c =
    fewer_from_start g.F.Valued _ _ _ _ (le_trans (le-add_right _ _) c.in_ok-make.ensures.made) c.forward-twiddles.ensures.table

pub extend_to_reversed-requires-clause-rows : goal.extend_to_reversed-requires-clause-rows
extend_to_reversed-requires-clause-rows g c =
    rows_padded _ _ _ _ _ c.pad_rows.ensures.whole c.log_height_lde-log_h.ensures.rows.height
    c.log_height_lde-log_h.ensures.fits_u64 c.in_ok-grown.ensures.padded

pub bit_reverse_rows-requires : goal.bit_reverse_rows-requires
bit_reverse_rows-requires g c = (
  c.log_height_lde-log_h.result + c.args.added_bits,
  c.extend_to_reversed.ensures.same.shape.0 ∙ (rows_padded _ _ _ _ _ c.pad_rows.ensures.whole
      c.log_height_lde-log_h.ensures.rows.height c.log_height_lde-log_h.ensures.fits_u64 c.in_ok-grown.ensures.padded).height,
)

pub returns-in_err-make : goal.returns-in_err-make
returns-in_err-make g c = rw (← c.self.view_is, ← c.into_row_major_matrix-mat.ensures) (
    let rows = c.log_height_lde-log_h.ensures.rows in
    record {
      values = IfOk-from_err _ _ c.from_residual.ensures.0;
      only = at_log _ _ _ rows.height (no_larger _ _ _ c.make.ensures.only);
      engine =
          tables_refused _ c.args.added_bits _ c.from_residual.ensures c.make.ensures.keeps
          rows.whole.width rows.height c.in_err-make.ensures.room;
    })

pub returns-in_err-grown-clause-only : goal.returns-in_err-grown-clause-only
returns-in_err-grown-clause-only g c =
    rw (← c.self.view_is, ← c.into_row_major_matrix-mat.ensures)
    (at_log _ _ _ c.log_height_lde-log_h.ensures.rows.height (no_larger _ _ _ c.make.ensures.only))

-- Below the coefficients lie rows of zeros, and the network leaves values in bit reversed order, which the view turns
-- into natural order. The tables were made for the extension's height.
pub returns : goal.returns
returns g c = rw (← c.self.view_is, ← c.into_row_major_matrix-mat.ensures) (
    let field = g.F.Valued in
    let log = c.log_height_lde-log_h.result in
    let a = c.args.added_bits in
    let m = c.into_row_major_matrix-mat.result in
    let high = c.log_height_lde-log_h.ensures.rows.height in
    let out = c.extend_to_reversed.new.mat in
    let grown =
    rows_padded field.zero m c.in_ok-grown.grown log a c.pad_rows.ensures.whole high c.log_height_lde-log_h.ensures.fits_u64
    c.in_ok-grown.ensures.padded in
    let same = c.extend_to_reversed.ensures.same in
    record {
      values = rw c.bit_reverse_rows.ensures.matrix (at_log _ _ _ high
          (values_seen field g.F.TwoAdicField.generator (values_of field m) out (field.value c.args.shift) (log + a)
          c.bit_reverse_rows.result.bits (whole_still c.in_ok-grown.grown out grown.whole same) (same.shape.0 ∙ grown.height)
          c.bit_reverse_rows.ensures.height
          (c.extend_to_reversed.ensures.values m c.pad_rows.ensures.whole high c.in_ok-grown.ensures.padded)));
      only = at_log _ _ _ high (no_larger _ _ _ c.make.ensures.only);
      engine = record {
        later = later_with_heights refl c.make.ensures.keeps c.extend_to_reversed.ensures.grows;
        prepared = λ done. at_log _ _ _ high c.in_ok-make.ensures.made;
        cost =
            let wide =
            (padded_shape field.zero m m c.in_ok-grown.grown a log c.pad_rows.ensures.whole (refl, refl) high
            c.in_ok-grown.ensures.padded).1 in
            at_log _ _ _ high (larger_bound _ _ _ _ (rw wide at c.extend_to_reversed.ensures.cost) (slots_within log a _));
        tables = omega arith;
        refused = tt;
      };
    })
