-- What answers cite: the names of Names and the lemmas of this crate, passed on from one place. Declares nothing; no lemma imports it.
pub use Rattle.p3_field.proofs.Names.{AreBelow, Bool, IsGcd, IsInverse, IsInvertible, List, Residue, [], ap, ap₂, arith, by_lanes, false, get_or, get_or-map}
pub use Rattle.p3_field.proofs.Names.{goldilocks_modulus, length, length-map, length-set, lit<, map, map-id, map-map, minus, mod-lt, power, range_with_len}
pub use Rattle.p3_field.proofs.Names.{refl, replicate, residue-eq, set, subst, suc, sym, true, two, zero, zip2, ℕ, ◌%◌, ◌*◌, ◌++◌, ◌+◌, ◌-◌, ◌/◌, ◌<◌, ◌^◌, ◌∙◌}
pub use Rattle.p3_field.proofs.Names.{◌∷◌, ◌≡◌, ◌≤◌}
pub use Rattle.std.proofs.Common.{MatchBool, below_more, le_antisymm, length-append, lt_of_lt_of_le, not, rules, vec_capacity, vec_len}
pub use Rattle.std.proofs.Math.Nat.{add-mod-mod}
pub use Rattle.std.proofs.lemmas.List.{get_or_default, get_or_read, length-replicate}
pub use Rattle.std.proofs.lemmas.Simd.{Each1-get_or, length-zip2, pick_l_left, pick_l_whole, shifts_fit_splat}
pub use Rattle.p3_field.proofs.Accumulated.{added_up, multiplied}
pub use Rattle.p3_field.proofs.BatchInverse.{first_product, first_product-more, first_product-none, inverse_before, inverse_of_last, invertible_factors}
pub use Rattle.p3_field.proofs.BatchInverse.{invertible_product, one_more_done, still_before}
pub use Rattle.p3_field.proofs.Bezout.{bezout_step}
pub use Rattle.p3_field.proofs.GoldilocksLanes.{words_together}
pub use Rattle.p3_field.proofs.LaneArithmetic.{loose_differences_of_lanes, multiples_of_loose, quotient_of_words}
pub use Rattle.p3_field.proofs.LaneLoops.{all_written, first_inside, length-pairs, map-replicate, more_images, more_pairs, next_first, next_second}
pub use Rattle.p3_field.proofs.LaneLoops.{next_written, pairs, second_inside, until, written}
pub use Rattle.p3_field.proofs.Lists.{place_inside, slice_set-single}
pub use Rattle.p3_field.proofs.PowerLists.{first_power, next_power, next_pushed}
pub use Rattle.p3_field.proofs.Powers.{halved, power-double, power-suc, power-zero, step-even, step-odd}
pub use Rattle.p3_field.proofs.ResidueLanes.{by_place, each_below, each_joined, eight_elements, eight_lanes, first_written, joined_parts, joined_places}
pub use Rattle.p3_field.proofs.ResidueLanes.{lanes_of_each, lanes_of_each_pair, lanes_of_pairs, number_of_lane, pairs_below, same_numbers, second_written}
pub use Rattle.p3_field.proofs.Residues.{bounded-eq, count-residue, even_half, listed_generator, odd_half, product_within_62_bits}
pub use Rattle.p3_field.proofs.WordLanes.{upper_halves_of_lanes}
pub use Rattle.p3_field.specs.FieldLaws.{count_law, difference_law}
pub use Rattle.p3_field.specs.Fields.{baby_bear_numbers, field_ring, goldilocks_generator, goldilocks_numbers, goldilocks_ring, koala_bear_numbers}
pub use Rattle.p3_field.specs.Residues.{residue_at}
