-- What answers cite: the names of Names and the lemmas of this crate, passed on from one place. Declares nothing; no lemma imports it.
pub use Rattle.p3_dft.proofs.Names.{All, All-rest, AllZip, AreFirstAnswers, AreRoots, Bool, CanRun, Coset, CosetEngineState, EngineState, FitsDft, FitsLde}
pub use Rattle.p3_dft.proofs.Names.{HasCoset, HasShapeOf, HasTwoPowerRows, IfOk, IfOk-from_err, IfOk-weaker, IsAnswer, IsCost, IsExtendedTransform, IsExtension}
pub use Rattle.p3_dft.proofs.Names.{IsInterpolation, IsInvertible, IsLater, IsPreparedFor, IsPublished, IsQuotient, IsRowMajor, IsTransform, IsTrue, IsValues}
pub use Rattle.p3_dft.proofs.Names.{IsWithinEither, List, Matrix, Ring, RowMajor, RowsDone, Same, [], add-one, all_zipped_more, ap, append-nil, ap₂, arith}
pub use Rattle.p3_dft.proofs.Names.{bit_reversal, column_shift, coset_shift, coset_values, count, count-power_of_two, div_below, drop, either_of, entries_rise}
pub use Rattle.p3_dft.proofs.Names.{false, first_of, flat, flat_map, get_or, halves_counted, height, if_first, image, inl, inr, inverse_root, inverse_undoes}
pub use Rattle.p3_dft.proofs.Names.{is_subgroup_values, is_values, le-add_right, le_of_eq, le_refl, le_trans, length, length-replicate, log_of_usize, log_same}
pub use Rattle.p3_dft.proofs.Names.{mapped_same, matrix, max, mod-eq_of_lt, mod_below, mul-add-lt, mul-div_cancel, mul-le-mul_left, mul-le-mul_right}
pub use Rattle.p3_dft.proofs.Names.{mul-mod_left, mul-one, mul_assoc, nil_from_length, opposite_rows, padded_shape, padded_whole, part_at, part_size, point}
pub use Rattle.p3_dft.proofs.Names.{point_of_one, poly, poly_same, pow-add, pow-le-pow_right, pow_pos, power, power-zero, quotient_of_products, refl, replicate}
pub use Rattle.p3_dft.proofs.Names.{rev, rev-block, rev-lt, rev-rev, reversed_rows, room_of, row_exchange, rules, same_coefficients, same_sym, subst, suc}
pub use Rattle.p3_dft.proofs.Names.{suc-mul, sum, sym, take, true≢false, value_at, values_of, with_zeros, written, written_shape, written_size, zero, ℕ, ◌%◌}
pub use Rattle.p3_dft.proofs.Names.{◌*◌, ◌++◌, ◌+◌, ◌-◌, ◌/◌, ◌<◌, ◌^◌, ◌↔◌, ◌∙◌, ◌∷◌, ◌≡◌, ◌≤◌, ◌⊎◌}
pub use Rattle.std.proofs.Common.{IsPermutation, div-add-mod', le-add_left, le-leb, leb, leb-true, lit≤, min, of_calls, vec_capacity, vec_len}
pub use Rattle.std.proofs.Math.Pow.{pow-lt}
pub use Rattle.std.proofs.lemmas.List.{get_or_read_under}
pub use Rattle.std.proofs.lemmas.List.Elements.{All-nil, All-push, All-take, All-weaker}
pub use Rattle.std.proofs.lemmas.Nat.{one_shl}
pub use Rattle.std.proofs.lemmas.Result.{IfErr-weaker, on_err_weaker, on_ok_weaker}
pub use Rattle.std.specs.Slice.Iter.{chunks_exact_rest, chunks_exact_size}
pub use Rattle.std.specs.Vec.Iter.{into_iter_items}
pub use Rattle.p3_field.proofs.Powers.{power-more}
pub use Rattle.p3_field.proofs.Roots.{inverse_roots}
pub use Rattle.p3_matrix.proofs.Matrices.{list_same}
pub use Rattle.p3_matrix.proofs.Polynomials.Quotients.{opposed_quotient, reversed_quotient, shifted_quotient}
pub use Rattle.p3_matrix.proofs.Polynomials.ReversedCoefficients.{coefficients_of_row, coefficients_of_scaled}
pub use Rattle.p3_matrix.proofs.Polynomials.Sums.{AreSums}
pub use Rattle.p3_matrix.proofs.Rows.OppositePlaces.{OppositeUntil}
pub use Rattle.p3_matrix.proofs.Rows.Overwritten.{rows-more, rows-none}
pub use Rattle.p3_matrix.proofs.Rows.Padding.{copy_at}
pub use Rattle.p3_matrix.proofs.TwoPowers.{log_unique, more_points}
pub use Rattle.p3_matrix.specs.BitOrder.{mid_of}
pub use Rattle.p3_matrix.specs.Blocks.{IsRefused}
pub use Rattle.p3_matrix.specs.RowMajor.{rows_from}
pub use Rattle.p3_networks.proofs.Layers.Blocks.{row_below}
pub use Rattle.p3_networks.proofs.Layers.Counts.{extension_counted, turn_counted}
pub use Rattle.p3_networks.proofs.Layers.Halves.{block_room}
pub use Rattle.p3_networks.proofs.Networks.Chunks.{halves_joined, row_digits}
pub use Rattle.p3_networks.proofs.Networks.CosetHalves.{halves_whole}
pub use Rattle.p3_networks.proofs.Tables.FromStart.{block_table, enough_from_start, fewer_from_start, first_is_one}
pub use Rattle.p3_networks.proofs.Tables.MoreTwiddles.{fewer_layers, layer_there}
pub use Rattle.p3_networks.proofs.Tables.RootPowers.{are_roots, fewer_roots, low_table}
pub use Rattle.p3_networks.specs.Twiddles.{IsCosetTable, backward_root, block_powers, factor, forward_root, root_of, scale_cost}
pub use Rattle.p3_dft.proofs.BitReversed.Coefficients.{coefficients_of_parts, extension_of_coefficients, extension_of_reversed, extension_of_row}
pub use Rattle.p3_dft.proofs.BitReversed.Coefficients.{extension_of_told_row, interpolation_of_coefficients, interpolation_of_row, values_of_answered}
pub use Rattle.p3_dft.proofs.BitReversed.Coefficients.{values_of_parts}
pub use Rattle.p3_dft.proofs.BitReversed.OneReversal.{interpolation_of_reversed, values_of_weighed}
pub use Rattle.p3_dft.proofs.BitReversed.OneRow.{row_handed_back, row_seen}
pub use Rattle.p3_dft.proofs.BitReversed.Rows.{reversed_cell, transform_of_reversed, transform_of_row, transform_seen, values_of_network, values_of_upper}
pub use Rattle.p3_dft.proofs.BitReversed.Rows.{values_seen, written_cell}
pub use Rattle.p3_dft.proofs.Calls.ColumnCosets.{transform_by_columns}
pub use Rattle.p3_dft.proofs.Calls.Columns.{vector_answer, vector_fits, vector_height, vectors_fit}
pub use Rattle.p3_dft.proofs.Calls.Coordinates.{cells_fit, column_height, flattened-flat, flattened-full, flattened-height, flattened-more, flattened_room}
pub use Rattle.p3_dft.proofs.Calls.Coordinates.{gathered_answer, gathered_room, gathered_width, height-flat, of_columns, one_more_fits}
pub use Rattle.p3_dft.proofs.Calls.CountedCalls.{after_dft, after_lde, inverse_refused}
pub use Rattle.p3_dft.proofs.Calls.Counts.{larger_bound, more_allowed, one_for_each, points_within, slots_within}
pub use Rattle.p3_dft.proofs.Calls.EngineSteps.{after_error, after_later, after_none, after_part, after_refusal, as_stored, dft_of_same, extended_after}
pub use Rattle.p3_dft.proofs.Calls.EngineSteps.{later_same, later_still, lde_of_same, part_refused, parts_after, products_after, where_answered}
pub use Rattle.p3_dft.proofs.Calls.ExtendedTransforms.{answered_shape, extended_of_same, extension_of_natural, extension_of_parts, extension_of_shifted}
pub use Rattle.p3_dft.proofs.Calls.ExtendedTransforms.{transform_of_shifted}
pub use Rattle.p3_dft.proofs.Calls.Inverses.{interpolation_of_quotient, interpolation_on_coset}
pub use Rattle.p3_dft.proofs.Calls.JobLists.{costs_more, costs_none, costs_rest, first_answers, next_is, next_not_promised, next_of_all, of_all, on_any_error}
pub use Rattle.p3_dft.proofs.Calls.JobLists.{ready_later, split_more, taken, taken_and_next}
pub use Rattle.p3_dft.proofs.Calls.PreparedCosets.{coset_stays, later_with_tables, one_table_more, tabled}
pub use Rattle.p3_dft.proofs.Calls.PreparedHeights.{after_prepared, counted_with_heights, later_with_heights, no_larger, none_above, not_ok, tabled_facts}
pub use Rattle.p3_dft.proofs.Calls.PreparedHeights.{tables_refused, up_to}
pub use Rattle.p3_dft.proofs.Calls.PublishedExtensions.{extension_of_equal, one_error, physical_height, physical_values, power_divides}
pub use Rattle.p3_dft.proofs.Calls.Shapes.{both_logs_fit, both_none, extended_entries, extended_table, extended_table_fits, fewer_entries, fewer_of_same}
pub use Rattle.p3_dft.proofs.Calls.Shapes.{fits_lde_as, input_fits, log_fits_dft, one_less_fits, output_fits, output_log_small, output_size, powers_fit}
pub use Rattle.p3_dft.proofs.Calls.Shapes.{same_extended, told}
pub use Rattle.p3_dft.proofs.Calls.Stored.{at_log, entries_then, entries_written, rows_padded, rows_still, whole_still}
pub use Rattle.p3_dft.proofs.Calls.Transforms.{entries_of_parts, transform_of_parts}
pub use Rattle.p3_dft.proofs.Laws.Blocks.{on_refused_weaker}
pub use Rattle.p3_dft.proofs.Laws.Codes.{degree_told}
pub use Rattle.p3_dft.proofs.NetworkG.{RowsSpread, RowsWeighed, extension_by_scale, half_powers_fit, interpolation_by_reversal, root_powers}
pub use Rattle.p3_dft.proofs.NetworkG.{transform_by_reversal}
pub use Rattle.p3_dft.specs.Codes.{Encoder}
pub use Rattle.p3_dft.specs.Jobs.{HasMade}
