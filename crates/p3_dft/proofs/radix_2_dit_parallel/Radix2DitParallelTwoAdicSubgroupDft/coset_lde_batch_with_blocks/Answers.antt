use Rattle.p3_dft.proofs.Lemmas.{◌≡◌, ℕ, ◌+◌, ◌*◌, ◌≤◌, sym, ap, ◌∙◌, subst, arith, refl, le-add_right, le_trans, bit_reversal, RowMajor, IsWithinEither}
use Rattle.p3_dft.proofs.Lemmas.{values_of, values_of_answered, values_seen, later_with_tables, one_error, at_log, whole_still}
use Rattle.p3_dft.proofs.radix_2_dit_parallel.Radix2DitParallelTwoAdicSubgroupDft.coset_lde_batch_with_blocks.Goals as goal

-- an inverse with a product for each entry, and a transform for each slot
slots_counted : (x y p w wide before middle after : ℕ) → wide ≡ w → middle ≤ before + w * x + y * w
    → after ≤ middle + p * (wide * x) → after ≤ before + w * (x * (1 + p) + y)
slots_counted x y p w wide before middle after same first second =
    let spread : w * x + y * w + p * (w * x) ≡ w * (x * (1 + p) + y) = omega arith in
    omega (arith, ap (λ n. p * (n * x)) same, first, second, spread)

pub coefficients_with_room-room-requires-clause-fits : goal.coefficients_with_room-room-requires-clause-fits
coefficients_with_room-room-requires-clause-fits g c = rw c.into_row_major_matrix-mat.ensures c.requires.fits

pub coefficients_with_room-room-requires-clause-callable : goal.coefficients_with_room-room-requires-clause-callable
coefficients_with_room-room-requires-clause-callable g c = rw c.into_row_major_matrix-mat.ensures c.requires.callable

pub coefficients_with_room-room-requires-clause-shape : goal.coefficients_with_room-room-requires-clause-shape
coefficients_with_room-room-requires-clause-shape g c = rw c.into_row_major_matrix-mat.ensures c.requires.shape

pub make_consumer-consumer-requires : goal.make_consumer-consumer-requires
make_consumer-consumer-requires g c =
    rw c.block_height-block_height.ensures (c.requires.makes _ (rw c.into_row_major_matrix-mat.ensures at c.log_height_lde-log_h.ensures.rows.height))

pub extend_reversed-extended-requires-clause-rows : goal.extend_reversed-extended-requires-clause-rows
extend_reversed-extended-requires-clause-rows g c = c.in-Ok.ensures.rows _ c.log_height_lde-log_h.ensures.rows.height

pub extend_reversed-extended-requires-clause-tables : goal.extend_reversed-extended-requires-clause-tables
extend_reversed-extended-requires-clause-tables g c = c.in-Ok.ensures.cosets _ c.log_height_lde-log_h.ensures.rows.height

pub bit_reverse_rows-requires : goal.bit_reverse_rows-requires
bit_reverse_rows-requires g c = (
  c.log_height_lde-log_h.result + c.args.added_bits,
  c.extend_reversed-extended.ensures.same.shape.0 ∙ (c.in-Ok.ensures.rows _ c.log_height_lde-log_h.ensures.rows.height).height,
)

pub returns-in-Err : goal.returns-in-Err
returns-in-Err g c = rw (← c.self.view_is, ← c.into_row_major_matrix-mat.ensures) (
    let room = c.coefficients_with_room-room.ensures in
    record {
      values = tt;
      published = tt;
      refused = tt;
      unpublished = refl;
      prepared = λ k high. tt;
      tables = λ k high. tt;
      keeps_tables = room.keeps_cosets;
      leaves = room.leaves;
      few_tables = room.few_cosets;
      later = later_with_tables g.F.Valued refl room.keeps room.keeps_cosets room.grows;
      cost = λ k high. slots_counted _ _ _ _ _ _ _ _ refl (room.cost k high) (le-add_right _ _);
      room = subst (IsWithinEither _ _ _ _) (sym (one_error _)) c.in-Err.ensures.room;
    })

-- A block was refused: all tables are there, and the extension that was stopped is that of what the transform answered.
pub returns-in-Err-extended : goal.returns-in-Err-extended
returns-in-Err-extended g c = rw (← c.self.view_is, ← c.into_row_major_matrix-mat.ensures) (
    let room = c.coefficients_with_room-room.ensures in
    let log = c.log_height_lde-log_h.result in
    let high = c.log_height_lde-log_h.ensures.rows.height in
    let answer = c.in-Ok.ensures.answer in
    record {
      values = tt;
      published = tt;
      refused = at_log _ _ log high (
          let (out, accepted, refused, values, blocks, run) =
          c.in-Err-extended.ensures.refused answer.answered answer.answered_whole (answer.kept.0 ∙ high) answer.over_zeros in (
            out,
            values_of_answered g.F.Valued g.F.TwoAdicField.generator _ c.into_row_major_matrix-mat.result answer.told
                answer.answered _ log _ out high (answer.are_coefficients log high) answer.told_whole
                answer.answered_whole answer.called answer.kept.0 values,
            record {
              first = c.make_consumer-consumer.result;
              made = rw (← c.block_height-block_height.ensures) c.make_consumer-consumer.ensures;
              accepted = accepted;
              refused = refused;
              blocks = blocks;
              run = run;
            },
          ));
      unpublished = tt;
      prepared = c.in-Ok.ensures.prepared;
      tables = c.in-Ok.ensures.cosets;
      keeps_tables = room.keeps_cosets;
      leaves = room.leaves;
      few_tables = room.few_cosets;
      later =
          later_with_tables g.F.Valued refl room.keeps room.keeps_cosets
          (le_trans room.grows c.extend_reversed-extended.ensures.grows);
      cost =
          at_log _ _ log high (slots_counted _ _ _ _ _ _ _ _
          (ap (λ (n : RowMajor g.row.F.Denot). n.width) answer.over_zeros ∙ answer.kept.1) (room.cost log high)
          c.extend_reversed-extended.ensures.cost);
      room = tt;
    })

-- All blocks were taken: the rows, seen in natural order, are values of what the transform answered, and the blocks are
-- those of the rows.
pub returns : goal.returns
returns g c = rw (← c.self.view_is, ← c.into_row_major_matrix-mat.ensures) (
    let field = g.F.Valued in
    let room = c.coefficients_with_room-room.ensures in
    let log = c.log_height_lde-log_h.result in
    let high = c.log_height_lde-log_h.ensures.rows.height in
    let answer = c.in-Ok.ensures.answer in
    let rows = c.in-Ok.ensures.rows log high in
    let out = c.extend_reversed-extended.new.mat in
    let same = c.extend_reversed-extended.ensures.same in
    record {
      values = rw c.bit_reverse_rows.ensures.matrix
          (values_of_answered field g.F.TwoAdicField.generator _ c.into_row_major_matrix-mat.result answer.told
          answer.answered _ log _ _ high (answer.are_coefficients log high) answer.told_whole answer.answered_whole
          answer.called answer.kept.0
          (values_seen field g.F.TwoAdicField.generator (bit_reversal log (values_of field answer.answered)) out _ _
          c.bit_reverse_rows.result.bits (whole_still c.in-Ok.mat out rows.whole same) (same.shape.0 ∙ rows.height)
          c.bit_reverse_rows.ensures.height
          (c.in_default.ensures.values answer.answered answer.answered_whole (answer.kept.0 ∙ high) answer.over_zeros)));
      published = at_log _ _ log high (
          let (blocks, parts, run) = c.in_default.ensures.published in
          record {
            first = c.make_consumer-consumer.result;
            made = rw (← c.block_height-block_height.ensures) c.make_consumer-consumer.ensures;
            blocks = blocks;
            parts = rw c.bit_reverse_rows.ensures.matrix parts;
            run = run;
          });
      refused = tt;
      unpublished = tt;
      prepared = c.in-Ok.ensures.prepared;
      tables = c.in-Ok.ensures.cosets;
      keeps_tables = room.keeps_cosets;
      leaves = room.leaves;
      few_tables = room.few_cosets;
      later =
          later_with_tables g.F.Valued refl room.keeps room.keeps_cosets
          (le_trans room.grows c.extend_reversed-extended.ensures.grows);
      cost =
          at_log _ _ log high (slots_counted _ _ _ _ _ _ _ _
          (ap (λ (n : RowMajor g.row.F.Denot). n.width) answer.over_zeros ∙ answer.kept.1) (room.cost log high)
          c.extend_reversed-extended.ensures.cost);
      room = tt;
    })
