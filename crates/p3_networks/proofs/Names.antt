-- What proofs cite of std, of the crates below and of the specs, passed on from one place. Declares nothing.
pub use Rattle.std.proofs.Common.{Bool, Err, Fits, List, Ok, Result, [], add-one, ap, append-nil, append_assoc, ap₂, arith, div-add-mod', div-le_self, drop}
pub use Rattle.std.proofs.Common.{drop-drop, drop_at, ext_get_or, false, get_or, get_or-append-add, inl, inr, le-leb, le_of_lt, le_refl, length, length-append}
pub use Rattle.std.proofs.Common.{lit≤, lt_of_le_of_lt, lt_of_mul-lt-mul_right, map, min, mod-eq_of_lt, mod-lt, mul-div_cancel, mul-le-mul, mul-le-mul_left}
pub use Rattle.std.proofs.Common.{mul-le-mul_right, pow-add, pow_pos, refl, rules, subst, suc, suc-mul, sym, take, take-append-drop, take-take, take_at, true}
pub use Rattle.std.proofs.Common.{w64, zero, ℕ, ⊎_elim, ◌%◌, ◌*◌, ◌++◌, ◌+◌, ◌-◌, ◌/◌, ◌<◌, ◌^◌, ◌∙◌, ◌∷◌, ◌≡◌, ◌≢◌, ◌≤◌, ◌⊎◌}
pub use Rattle.std.proofs.Math.Nat.{add-sub_cancel_left, div-add-mod, div-eq_of_lt, mul-mod_left, pow-le-pow_right, two-pow-succ}
pub use Rattle.std.proofs.Math.Pow.{pow-lt}
pub use Rattle.std.proofs.Math.Seq.{take-length}
pub use Rattle.std.proofs.lemmas.Bool.{cases_lt, lt-leb}
pub use Rattle.std.proofs.lemmas.Fn.{FoldsTo-push}
pub use Rattle.std.proofs.lemmas.List.{get_or-append_right, get_or-map, get_or_append_left, length-map, map-append, places}
pub use Rattle.std.proofs.lemmas.List.Elements.{All-append}
pub use Rattle.std.proofs.lemmas.List.FromFn.{get_or-map-range_with_len, length-map-range_with_len, map-range_with_len_more}
pub use Rattle.std.proofs.lemmas.Nat.{div-mul-add, div_below, mod-mul-add, mod_below, mul-add-lt, one_shl}
pub use Rattle.std.proofs.lemmas.Result.{MatchResult-weaker}
pub use Rattle.std.specs.Prelude.{⊤}
pub use Rattle.p3_field.proofs.Parity.{even_or_odd}
pub use Rattle.p3_field.proofs.Powers.{power-add, power-mul, power-one, power-zero, power_of_one, power_of_product}
pub use Rattle.p3_field.proofs.RingSolver.{solve, va, vb, vc, vd, ◌⊞◌, ◌⊟◌, ◌⊠◌}
pub use Rattle.p3_field.proofs.Roots.{inverse_power, inverse_root, inverse_roots, inverse_undoes, root_across, root_all, root_round, root_squared, root_strided}
pub use Rattle.p3_field.specs.Ring.{AreRoots, Ring, minus, power}
pub use Rattle.p3_matrix.proofs.BitReversal.{rev-block, rev-even, rev-lt, rev-odd, rev-rev, rev-zero, rev_of_zero}
pub use Rattle.p3_matrix.proofs.BlockRuns.{starts_differ}
pub use Rattle.p3_matrix.proofs.Matrices.{list_same}
pub use Rattle.p3_matrix.proofs.Polynomials.ByIndex.{poly-add, poly-append, poly-none, poly-one, poly-scaled, poly-split, poly-times, poly_padded, poly_same}
pub use Rattle.p3_matrix.proofs.Polynomials.ByIndex.{poly_zeros}
pub use Rattle.p3_matrix.proofs.Polynomials.Cosets.{point-mul, point_of_one}
pub use Rattle.p3_matrix.proofs.Polynomials.Distance.{points_apart}
pub use Rattle.p3_matrix.proofs.Rows.Overwritten.{part_at, part_size, put_before, put_in, put_length}
pub use Rattle.p3_matrix.proofs.TwoPowers.{log_lt}
pub use Rattle.p3_matrix.specs.BitOrder.{mid_of, rev}
pub use Rattle.p3_matrix.specs.Blocks.{AreBlocksOf, IsBlockOf, Run, RunToRefusal}
pub use Rattle.p3_matrix.specs.Butterflies.{dif_far, dif_near, dit_far, dit_near, scaled_dit_far, scaled_dit_near}
pub use Rattle.p3_matrix.specs.Cosets.{Coset, HasCoset, IsCosetAt, IsCosetOf, point}
pub use Rattle.p3_matrix.specs.Matrix.{Matrix, image, matrix}
unfoldable pub use Rattle.p3_matrix.specs.Polynomials.{poly}
pub use Rattle.p3_matrix.specs.RowMajor.{RowMajor}
pub use Rattle.p3_networks.specs.Chunks.{chunk_of}
pub use Rattle.p3_networks.specs.Counts.{RisesAtMost}
pub use Rattle.p3_networks.specs.Groups.{AreLayersInOrder, HoldsColumns, IsGroupChunk, MeetInColumns, TakesCells, TakesColumns, cells_of, group_end, group_of}
pub use Rattle.p3_networks.specs.Groups.{layer_of}
pub use Rattle.p3_networks.specs.Halves.{AreHighTwiddles, AreLowTwiddles, IsHighHalf, IsLowHalf}
pub use Rattle.p3_networks.specs.Layers.{AreLayers, AreRows, AreValuesOfRows, HoldsCells, IsLayer, MeetHalves, MeetInPairs}
pub use Rattle.p3_networks.specs.Slots.{HasRowsOnCoset, IsSlot, LentInBlocks, extended_rows, slot_block, slot_blocks}
pub use Rattle.p3_networks.specs.Twiddles.{AreTwiddles, AreTwiddlesFromStart, AreTwiddlesOfLayers, IsCosetTable, block_powers, by_layer, coset_twiddles}
pub use Rattle.p3_networks.specs.Twiddles.{forward_root, from_start, layer_place, root_of, root_powers}
