-- What answers cite: the names of Names and the lemmas of this crate, passed on from one place. Declares nothing; no lemma imports it.
pub use Rattle.p3_networks.proofs.Names.{All-append, AreHighTwiddles, AreLayersInOrder, AreLowTwiddles, AreRoots, AreRows, AreTwiddles, AreTwiddlesFromStart}
pub use Rattle.p3_networks.proofs.Names.{AreTwiddlesOfLayers, Bool, Coset, Fits, HasCoset, HoldsCells, HoldsColumns, IsCosetAt, IsCosetOf, IsCosetTable}
pub use Rattle.p3_networks.proofs.Names.{IsHighHalf, IsLayer, IsLowHalf, List, MatchResult-weaker, MeetHalves, RisesAtMost, RowMajor, Run, TakesCells}
pub use Rattle.p3_networks.proofs.Names.{TakesColumns, [], add-one, add-sub_cancel_left, ap, append-nil, append_assoc, ap₂, arith, block_powers, by_layer}
pub use Rattle.p3_networks.proofs.Names.{cases_lt, cells_of, chunk_of, coset_twiddles, dif_far, dit_far, dit_near, drop, extended_rows, false, forward_root}
pub use Rattle.p3_networks.proofs.Names.{get_or, group_end, group_of, inl, inr, inverse_root, inverse_roots, inverse_undoes, layer_of, layer_place, le_of_lt}
pub use Rattle.p3_networks.proofs.Names.{le_refl, length, length-append, length-map, lit≤, lt_of_le_of_lt, map, mid_of, min, minus, mul-div_cancel, mul-le-mul}
pub use Rattle.p3_networks.proofs.Names.{mul-le-mul_left, mul-le-mul_right, one_shl, part_at, part_size, point, point-mul, point_of_one, poly, poly-one}
pub use Rattle.p3_networks.proofs.Names.{poly-times, poly_same, pow-add, pow-le-pow_right, pow_pos, power, power-add, power-one, power-zero, power_of_one, refl}
pub use Rattle.p3_networks.proofs.Names.{rev, rev-lt, rev-rev, rev_of_zero, root_of, root_powers, rules, slot_blocks, subst, suc, sym, take, true, two-pow-succ}
pub use Rattle.p3_networks.proofs.Names.{w64, zero, ℕ, ⊎_elim, ◌*◌, ◌++◌, ◌+◌, ◌-◌, ◌/◌, ◌<◌, ◌^◌, ◌∙◌, ◌∷◌, ◌≡◌, ◌≤◌, ◌⊎◌}
pub use Rattle.std.proofs.Common.{Bor, Fits-le, IsPermutation, IsTrue, None, Option, Some, add-le-add, add-mul, add-one-le, add-sub_of_le, add-zero, add_comm}
pub use Rattle.std.proofs.Common.{get_or-set_other, le-add_left, le-add_right, le_antisymm, le_of_eq, le_trans, leb, lt_irrefl, lt_of_lt_of_le, sub-le}
pub use Rattle.std.proofs.Common.{zero-add, zero-mul}
pub use Rattle.std.proofs.lemmas.Bool.{false≢true}
pub use Rattle.std.proofs.lemmas.List.{get_or_default, get_or_push, get_or_read_under}
pub use Rattle.std.proofs.lemmas.List.Elements.{All-cons, All-nil}
pub use Rattle.std.proofs.lemmas.List.Sorted.{IsPermutation-append_comm}
pub use Rattle.std.proofs.lemmas.Option.{IfSome_then}
pub use Rattle.p3_field.proofs.LaneLoops.{next_written}
pub use Rattle.p3_field.proofs.Powers.{power-more}
pub use Rattle.p3_field.specs.Lanes.{by_lanes}
pub use Rattle.p3_matrix.proofs.Rooms.{room_of}
pub use Rattle.p3_matrix.proofs.Rows.Overwritten.{RowsDone, lane_at, rows-all, rows-more, rows-next, rows-none, value_at}
pub use Rattle.p3_matrix.specs.Cosets.{AddsCosets, HasCosets, IsOneOf}
pub use Rattle.p3_networks.proofs.Layers.Blocks.{block_within, blocks_whole, halves_whole, row_below}
pub use Rattle.p3_networks.proofs.Layers.Chunks.{blocks_within, chunk_digits, chunk_sizes, chunk_taken, chunk_within, costly_layer_more}
pub use Rattle.p3_networks.proofs.Layers.Columns.{InColumns, blocks_of_columns}
pub use Rattle.p3_networks.proofs.Layers.Counts.{at_end, count_all, count_more, count_none, counted_twice, half_power, joined_count, layer_counted}
pub use Rattle.p3_networks.proofs.Layers.Counts.{layers_counted, layers_joined, one_chunk_counted, rises_as, rises_halved, rises_joined, rises_within}
pub use Rattle.p3_networks.proofs.Layers.Counts.{turn_counted, turns_halved, two_halves}
pub use Rattle.p3_networks.proofs.Layers.Groups.{block_there, columns_next, columns_none, cover_counted, covered, covered_first, covered_last, covered_next}
pub use Rattle.p3_networks.proofs.Layers.Groups.{group_first, group_last, group_sizes, layer_in_order, layers_more, piece_held, piece_layer_counted, piece_of}
pub use Rattle.p3_networks.proofs.Layers.Groups.{piece_sizes, piece_start, pieces_all, pieces_counted, pieces_cover, pieces_few, pieces_next, stand}
pub use Rattle.p3_networks.proofs.Layers.Groups.{stand_first, stand_last}
pub use Rattle.p3_networks.proofs.Layers.Halves.{block_room, block_size, each_cell, half_within, halves_same, in_first, in_second, of_halves, part_length}
pub use Rattle.p3_networks.proofs.Layers.Joined.{scaled_layers}
pub use Rattle.p3_networks.proofs.Layers.Orders.{layer_does, layer_more, lower_then_upper, upper_then_lower}
pub use Rattle.p3_networks.proofs.Layers.Pairs.{joined, pairs_of_chunks, same_at}
pub use Rattle.p3_networks.proofs.Layers.Scalings.{factor-more, power_of_column, restored, same_entries, scaled_by_packs, whole_packs}
pub use Rattle.p3_networks.proofs.Layers.Shifts.{one_shifted}
pub use Rattle.p3_networks.proofs.Layers.Sizes.{cells_by_blocks, cells_by_halves, done_shift, first_shift, left_shift, second_shift, some_rows}
pub use Rattle.p3_networks.proofs.Layers.Tiles.{TileSizes, shifted_sizes, spread_room, tile_rows, tile_rows_of_chunk, tile_sizes, tile_small, tile_some}
pub use Rattle.p3_networks.proofs.Layers.Tiles.{tiles_cost, tiles_taken}
pub use Rattle.p3_networks.proofs.Networks.Cells.{twisted_cells, twisted_cells_end, twisted_cells_of_zeros, twisted_cells_start, twisted_layers}
pub use Rattle.p3_networks.proofs.Networks.Chunks.{row_digits}
pub use Rattle.p3_networks.proofs.Networks.Formulas.{whole_layer_taken}
pub use Rattle.p3_networks.proofs.Networks.HighRows.{high_end, high_row, high_rows, high_start}
pub use Rattle.p3_networks.proofs.Networks.LowLayers.{low_begun, low_done, low_first, low_layer}
pub use Rattle.p3_networks.proofs.Networks.LowRows.{low_row}
pub use Rattle.p3_networks.proofs.Networks.SlotPlaces.{blocks_all, cells_whole, first_ends, front_told, others_told, refused_in_first, refused_in_others}
pub use Rattle.p3_networks.proofs.Networks.SlotPlaces.{slot_ends, slot_first, slot_lent, slot_starts}
pub use Rattle.p3_networks.proofs.Networks.Slots.{first_coset, is_slot, of_front, other_rows, others_long, others_whole, rows_of_slots, slot_number}
pub use Rattle.p3_networks.proofs.Networks.Slots.{slot_of_shifted, slot_size, slots_counted}
pub use Rattle.p3_networks.proofs.Networks.Stages.{twiddle}
pub use Rattle.p3_networks.proofs.Rows.EachChunk.{ChunksDone, cells_of_chunks, chunks_next, chunks_none, chunks_weaker, halves_taken, row_at, row_taken}
pub use Rattle.p3_networks.proofs.Rows.Lent.{lent_once, run_joined}
pub use Rattle.p3_networks.proofs.Tables.BlockTables.{chunk_entry}
pub use Rattle.p3_networks.proofs.Tables.CosetTables.{coset_found, coset_read}
pub use Rattle.p3_networks.proofs.Tables.FromStart.{enough_from_start, first_is_one, from_powers, spread_root}
pub use Rattle.p3_networks.proofs.Tables.InversePowers.{inverse_entry}
pub use Rattle.p3_networks.proofs.Tables.MoreTwiddles.{layer_there, one_more_layer}
pub use Rattle.p3_networks.proofs.Tables.RootPowers.{fewer_roots, subgroup_table}
pub use Rattle.p3_networks.specs.Chunks.{chunk_of_source, source_of}
pub use Rattle.p3_networks.specs.CosetTables.{HasEachOnce}
pub use Rattle.p3_networks.specs.Groups.{DoesLayers, IsChunk}
pub use Rattle.p3_networks.specs.Halves.{IsHighNetwork}
pub use Rattle.p3_networks.specs.Twiddles.{backward_root, factor, items_if_any, scale_cost}
