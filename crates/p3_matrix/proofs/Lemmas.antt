-- What answers cite: the names of Names and the lemmas of this crate, passed on from one place. Declares nothing; no lemma imports it.
pub use Rattle.p3_matrix.proofs.Names.{RowMajor, Same, ap, ap₂, arith, bit_reversal, by_lanes, div-add-mod', drop, drop-map, get_or, get_or-by_lanes}
pub use Rattle.p3_matrix.proofs.Names.{get_or-map, height, inl, inr, le-mul_of_pos_right, length, length-append, length-map, map, matrix, minus, pow_pos, refl}
pub use Rattle.p3_matrix.proofs.Names.{reversed_rows, row, rules, scaled_dit_far, scaled_dit_near, subst, suc, sym, take, take-map, until, zero, ℕ, ◌%◌, ◌*◌}
pub use Rattle.p3_matrix.proofs.Names.{◌+◌, ◌-◌, ◌/◌, ◌<◌, ◌^◌, ◌∙◌, ◌≡◌, ◌≤◌, ◌⊎◌}
unfoldable pub use Rattle.p3_matrix.proofs.Names.{rev}
pub use Rattle.std.proofs.Common.{Fits-le, le-add_right, le_trans, lit<, lt_of_le_of_lt, zero-le}
pub use Rattle.std.proofs.lemmas.Nat.{one_shl}
pub use Rattle.p3_matrix.proofs.BitReversal.{rev-lt, rev_of_zero}
pub use Rattle.p3_matrix.proofs.Carries.{IsCarry}
pub use Rattle.p3_matrix.proofs.HalfReversed.{IsRowsHalfReversed}
pub use Rattle.p3_matrix.proofs.Lanes.{by_lanes-map_right, by_lanes-mapped, by_lanes_is_left, by_lanes_of_left, equal_lanes, length-by_lanes, map-by_lanes}
pub use Rattle.p3_matrix.proofs.RowExchanges.{all_written, exchanged_rows, swapped_column}
pub use Rattle.p3_matrix.proofs.RowMajor.{bound_within, row_within, rows_within, taken_whole, whole_part, written_size}
pub use Rattle.p3_matrix.proofs.Rows.Zeros.{zeros_from_bound}
pub use Rattle.p3_matrix.proofs.RowsByPacks.{element_done, element_stays, elements_done, loop_ends, more_products, next_pack, of_one_lane, pack_done, pack_fits}
pub use Rattle.p3_matrix.proofs.RowsByPacks.{pack_sizes, pack_within, packs_done, products_in_parts, products_long, rows_done, rows_done_all, rows_in_parts}
pub use Rattle.p3_matrix.proofs.RowsByPacks.{three_in_parts}
pub use Rattle.p3_matrix.proofs.Tiles.{all_below, are_numbers, chunk_fits, chunk_in_tile_order, chunk_lt, chunks_apart, digits, mirror_not_after, partner_after}
pub use Rattle.p3_matrix.proofs.Tiles.{partner_is, partner_not, tile_done, tile_order, usize_size}
pub use Rattle.p3_matrix.proofs.TwoPowers.{digit_below, log_of_height, log_same, log_unique}
pub use Rattle.p3_matrix.specs.Consumers.{HasRoom}
