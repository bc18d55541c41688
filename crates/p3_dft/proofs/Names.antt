-- What proofs cite of std, of the crates below and of the specs, passed on from one place. Declares nothing.
pub use Rattle.std.proofs.Common.{All, Bool, Err, IfErr, IfOk, IsErr, IsErrAnd, IsOk, IsTrue, List, None, Ok, OnErr, OnOk, Option, Result, Some, SomeIff, []}
pub use Rattle.std.proofs.Common.{add-mul, add-one, add_assoc, ap, append-nil, append_assoc, ap₂, arith, below_more, cond, div-lt_iff_lt-mul, div-mul-le_self}
pub use Rattle.std.proofs.Common.{drop, eq-eqb, eqb-true, ext_get_or, false, flat_map, get_or, get_or-append-add, inl, inr, is_some, le-add_right, le-ltb}
pub use Rattle.std.proofs.Common.{le-mul_of_pos_right, le_of_eq, le_refl, le_trans, length, length-append, length-take-le, lt-ltb, map, max, mod-eq_of_lt}
pub use Rattle.std.proofs.Common.{mod-lt, mul-div_cancel, mul-le-mul_left, mul-le-mul_right, mul-one, mul_assoc, mul_comm, pow-add, pow_pos, refl, replicate}
pub use Rattle.std.proofs.Common.{rules, subst, suc, suc-mul, sum, sym, take, take-suc, take_all, true, true≢false, zero, zero-mul, ℕ, ⊎_elim, ◌%◌, ◌&&◌, ◌*◌}
pub use Rattle.std.proofs.Common.{◌++◌, ◌+◌, ◌-◌, ◌/◌, ◌<◌, ◌==◌, ◌^◌, ◌↔◌, ◌∙◌, ◌∷◌, ◌≡◌, ◌≢◌, ◌≤◌, ◌⊎◌}
pub use Rattle.std.proofs.Math.ListN.{get_or-append, get_or-map}
pub use Rattle.std.proofs.Math.Nat.{div-add-mod, le-max_left, le-max_right, mod-add-div, mul-add-mod_self_right, mul-div-mul_right, mul-mod_left}
pub use Rattle.std.proofs.Math.Nat.{pow-le-pow_right, two-pow-succ}
pub use Rattle.std.proofs.lemmas.Bool.{cases_lt}
pub use Rattle.std.proofs.lemmas.Grind.{flat_map-append}
pub use Rattle.std.proofs.lemmas.List.{get_or_past, length-map, length-replicate, nil_from_length, places}
pub use Rattle.std.proofs.lemmas.List.Concat.{flat_map-cons}
pub use Rattle.std.proofs.lemmas.List.Elements.{All-rest}
pub use Rattle.std.proofs.lemmas.List.Sums.{sum_by_push}
pub use Rattle.std.proofs.lemmas.Nat.{div_below, mod_below, mul-add-lt}
pub use Rattle.std.proofs.lemmas.Result.{IfErr-at_err, IfOk-at_ok, IfOk-from_err, IfOk-weaker}
pub use Rattle.std.proofs.lemmas.Slice.Zip.{AllZip-long, all_zipped_more}
pub use Rattle.std.specs.Cmp.Lexicographic.{pointwise}
pub use Rattle.std.specs.List.{AllZip, range_with_len}
pub use Rattle.std.specs.Prelude.{⊤}
pub use Rattle.p3_field.proofs.Powers.{count-power_of_two, power-inverse, power-one, power-suc, power-zero, power_of_one}
pub use Rattle.p3_field.proofs.Roots.{inverse_root, inverse_undoes, root_across, root_all, root_squared, root_strided}
pub use Rattle.p3_field.specs.Ring.{AreRoots, IsInverse, IsInvertible, Ring, count, power, two}
pub use Rattle.p3_matrix.proofs.BitReversal.{rev-block, rev-lt, rev-rev, rev-zero, reversed_back, reversed_twice}
pub use Rattle.p3_matrix.proofs.Consumers.{all_copied}
pub use Rattle.p3_matrix.proofs.Matrices.{mapped_same, same_sym, same_trans}
pub use Rattle.p3_matrix.proofs.Polynomials.ByIndex.{poly-add, poly-append, poly-one, poly-times, poly_same, poly_zeros}
pub use Rattle.p3_matrix.proofs.Polynomials.Combinations.{chosen_values, column_values, combination_values, lengthened_values, values_of_shifted}
pub use Rattle.p3_matrix.proofs.Polynomials.Cosets.{coefficients_same, coset_values, entry-poly, is_subgroup_values, is_values, padded_values, point-mul}
pub use Rattle.p3_matrix.proofs.Polynomials.Cosets.{point_of_one, shifted_values, values_same, values_unique}
pub use Rattle.p3_matrix.proofs.Polynomials.Distance.{one_word, points_apart}
pub use Rattle.p3_matrix.proofs.Polynomials.Interpolation.{coefficients_of_same, coset_coefficients, forward_inverse_by_count, same_coefficients}
pub use Rattle.p3_matrix.proofs.Polynomials.Interpolation.{there_is_no_other}
pub use Rattle.p3_matrix.proofs.Polynomials.Quotients.{quotient_of_products, shifted_by_one}
pub use Rattle.p3_matrix.proofs.ReversedRows.{reversed_entry, reversed_same}
pub use Rattle.p3_matrix.proofs.Rooms.{either_of, first_of, if_first, if_within_more, room_of, within_more}
pub use Rattle.p3_matrix.proofs.RowMajor.{height_of_parts, row_within, whole_kept, written_shape, written_size}
pub use Rattle.p3_matrix.proofs.Rows.Overwritten.{RowsDone, part_at, part_size, rows-next, value_at, written}
pub use Rattle.p3_matrix.proofs.Rows.Padding.{cell_above, padded_above, padded_below, padded_high, padded_shape, padded_whole, values_of_padded}
pub use Rattle.p3_matrix.proofs.TwoPowers.{entries_rise, log_of_usize, log_same, log_within}
pub use Rattle.p3_matrix.specs.BitOrder.{BitReversed, bit_reversal, rev, reversed_rows}
pub use Rattle.p3_matrix.specs.Blocks.{IsPublished}
pub use Rattle.p3_matrix.specs.Combinations.{alone, chosen, combination, lengthened}
pub use Rattle.p3_matrix.specs.Consumers.{IsCopied}
pub use Rattle.p3_matrix.specs.Cosets.{AreCoefficients, Coset, HasCoset, IsCosetOf, IsQuotient, IsValues, coset_shift, opposite_rows, values_of}
unfoldable pub use Rattle.p3_matrix.specs.Cosets.{point}
pub use Rattle.p3_matrix.specs.Matrix.{Matrix, Same, column, image, matrix, row_exchange}
pub use Rattle.p3_matrix.specs.Polynomials.{convolution}
unfoldable pub use Rattle.p3_matrix.specs.Polynomials.{poly, value}
pub use Rattle.p3_matrix.specs.Room.{IsWithin, IsWithinEither}
pub use Rattle.p3_matrix.specs.RowMajor.{HasShapeOf, IsRowMajor, RowMajor, height, row, with_zeros}
pub use Rattle.p3_networks.proofs.Layers.Counts.{halves_counted}
pub use Rattle.p3_networks.specs.Layers.{AreValuesOfRows}
pub use Rattle.p3_networks.specs.Twiddles.{AreTwiddles}
pub use Rattle.p3_dft.specs.ColumnCosets.{IsInterpolationByColumns, IsTransformByColumns, column_shift, columns_shifted}
pub use Rattle.p3_dft.specs.Coordinates.{coordinate, flat}
pub use Rattle.p3_dft.specs.Engines.{AfterDft, AfterLde, AfterLdeOfCoefficients, AtLog, CosetEngineState, EngineFacts, EngineState, HasProductsMore, IsAfter}
pub use Rattle.p3_dft.specs.Engines.{IsCosetPrepared, IsLater, IsPrepared, one_column, plain_facts}
pub use Rattle.p3_dft.specs.Extensions.{AreExtendedValues, AreTransformedValues, IsExtension, KeepsShape, arrangement, extension_bound}
pub use Rattle.p3_dft.specs.Jobs.{AreFirstAnswers, CanRun, IsAnswer, IsCost, IsPreparedFor, IsPromised, IsRun, NextIsNotPromised, RanOut, answer_entries}
pub use Rattle.p3_dft.specs.Parts.{IsInterleaved, row_as_matrix, wide_rows}
pub use Rattle.p3_dft.specs.Shapes.{FitsDft, FitsLde}
pub use Rattle.p3_dft.specs.Stored.{HasEntriesOf, HasTwoPowerRows}
pub use Rattle.p3_dft.specs.Transforms.{IsExtendedTransform, IsInterpolation, IsTransform}
