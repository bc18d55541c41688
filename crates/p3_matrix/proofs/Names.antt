-- What proofs cite of std, of the crates below and of the specs, passed on from one place. Declares nothing.
pub use Rattle.std.proofs.Common.{All, Bool, Contains, Err, Fits, IsTrue, List, Ok, Result, [], add-mul, add-one, ap, append-nil, append_assoc, ap₂, arith}
pub use Rattle.std.proofs.Common.{cond, div-add-mod', div-lt_iff_lt-mul, div-mul-le_self, drop, drop-drop, drop_at, drop_of_length-le, eq-eqb, eqb, ext_get_or}
pub use Rattle.std.proofs.Common.{false, flat_map, get_or, get_or-append-add, if◌then◌else◌, inl, inr, le-ltb, le-mul_of_pos_right, le_of_lt, length}
pub use Rattle.std.proofs.Common.{length-append, length-take-le, lit≤, lt-ltb, lt_of_lt_of_le, map, min, mod-eq_of_lt, mod-lt, mul-div_cancel, mul-le-mul_left}
pub use Rattle.std.proofs.Common.{mul-le-mul_right, mul_assoc, mul_comm, ne_eqb, pow-add, pow_pos, refl, replicate, rules, set, slice_range, subst, suc}
pub use Rattle.std.proofs.Common.{suc-add, suc-mul, sum_by, sym, take, take-add, take_at, true, w64, zero, zero-add, ℕ, ⊎_elim, ◌%◌, ◌*◌, ◌++◌, ◌+◌, ◌-◌, ◌/◌}
pub use Rattle.std.proofs.Common.{◌<◌, ◌==◌, ◌^◌, ◌↔◌, ◌∙◌, ◌∷◌, ◌≡◌, ◌≢◌, ◌≤◌, ◌⊎◌}
pub use Rattle.std.proofs.Math.ListN.{get_or-append}
pub use Rattle.std.proofs.Math.Nat.{mul-mod_left}
pub use Rattle.std.proofs.Math.Seq.{drop-append_seam, drop-length, get_or-append_right, take-append_seam, take-length}
pub use Rattle.std.proofs.lemmas.Bool.{cases_eq, cases_lt, cases_order}
pub use Rattle.std.proofs.lemmas.Fn.{FoldsTo-push}
pub use Rattle.std.proofs.lemmas.List.{drop-map, get_or-map, get_or_default, get_or_past, get_or_push, length-map, length-replicate, map-append, places}
pub use Rattle.std.proofs.lemmas.List.{same_lists, take-append-le, take-map}
pub use Rattle.std.proofs.lemmas.List.Edits.{Swapped}
pub use Rattle.std.proofs.lemmas.List.Elements.{All-cons, Contains-get_or}
pub use Rattle.std.proofs.lemmas.List.Folds.{Any-from_list_any}
pub use Rattle.std.proofs.lemmas.List.FromFn.{fill_by_all, get_or-map-range_with_len, length-map-range_with_len, map-range_with_len_more}
pub use Rattle.std.proofs.lemmas.List.FromFn.{sum_by-map-range_with_len_more}
pub use Rattle.std.proofs.lemmas.List.Kept.{AllPairs-cons}
pub use Rattle.std.proofs.lemmas.List.Sorted.{IsPermutation-refl}
pub use Rattle.std.proofs.lemmas.List.Sums.{sum_by-cons}
pub use Rattle.std.proofs.lemmas.Map.Made.{IsDistinct-from_AllPairs}
pub use Rattle.std.proofs.lemmas.Map.Steps.{length-le_from_distinct_below}
pub use Rattle.std.proofs.lemmas.Nat.{div-mul-add, div_below, le-div, mod-mul-add, mod_below, mul-add-lt, pow_below}
pub use Rattle.std.proofs.lemmas.Slice.{between_is}
pub use Rattle.std.specs.List.{list_any, range_with_len}
pub use Rattle.std.specs.Prelude.{⊤}
pub use native.Mathlib.Nat.{mod_self}
pub use Rattle.p3_field.proofs.LaneLoops.{get_or-by_lanes, still, until, written}
pub use Rattle.p3_field.proofs.Parity.{even_or_odd}
pub use Rattle.p3_field.proofs.Powers.{count-power_of_two, power-add, power-inverse, power-mul, power-suc, power-zero, power_of_one}
pub use Rattle.p3_field.proofs.RingSolver.{oneₑ, solve, solve_by, va, vb, vc, vd, ve, zeroₑ, ⊝, ◌⊞◌, ◌⊟◌, ◌⊠◌}
pub use Rattle.p3_field.proofs.Roots.{AreInverseRoots, doubled-power, doubled_add, halved, halved-doubled, halved-power, inverse_power, inverse_root}
pub use Rattle.p3_field.proofs.Roots.{inverse_roots, inverse_roots_sym, inverse_undoes, root_across, root_all, root_half, root_round, root_squared, root_twice}
unfoldable pub use Rattle.p3_field.proofs.Roots.{doubled}
pub use Rattle.p3_field.specs.Lanes.{by_lanes}
pub use Rattle.p3_field.specs.Ring.{AreRoots, IsInverse, IsInvertible, Ring, count, minus, two}
unfoldable pub use Rattle.p3_field.specs.Ring.{power}
pub use Rattle.p3_matrix.specs.BitOrder.{bit_reversal, reversed_rows}
unfoldable pub use Rattle.p3_matrix.specs.BitOrder.{rev}
pub use Rattle.p3_matrix.specs.Blocks.{AreBlocksOf, IsBlockOf, IsPartition, IsPublished, IsRefused, Run, RunToRefusal, block, first_blocks}
pub use Rattle.p3_matrix.specs.Butterflies.{scaled_dit_far, scaled_dit_near}
pub use Rattle.p3_matrix.specs.Cosets.{AreCoefficients, IsQuotient, IsValues, coset_shift, opposite_rows, values_of}
unfoldable pub use Rattle.p3_matrix.specs.Cosets.{point}
pub use Rattle.p3_matrix.specs.Exchange.{IsExchange}
pub use Rattle.p3_matrix.specs.Matrix.{Matrix, Same, column, image, list_of_rows, matrix, row_exchange, row_of}
pub use Rattle.p3_matrix.specs.Polynomials.{convolution}
unfoldable pub use Rattle.p3_matrix.specs.Polynomials.{poly, sum, value}
pub use Rattle.p3_matrix.specs.RowMajor.{HasShapeOf, IsRowMajor, RowMajor, height, row, rows, rows_from, with_zeros}
pub use Rattle.p3_matrix.specs.RowNumbers.{AgreeInRows, HoldsInRows}
pub use Rattle.p3_matrix.specs.Writes.{with_elements, with_values}
