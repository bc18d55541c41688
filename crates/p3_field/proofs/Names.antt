-- What proofs cite of std, of the crates below and of the specs, passed on from one place. Declares nothing.
pub use Rattle.std.proofs.Common.{Bool, Fits, List, [], add-one, ap, ap₂, arith, bit_and, cond, div-add-mod', div-lt_iff_lt-mul, drop, eqb, false, get_or}
pub use Rattle.std.proofs.Common.{get_or-append-add, get_or-set_other, get_or-set_same, inl, inr, le-ltb, leb, length, length-set, lit<, lt-ltb, ltb, map}
pub use Rattle.std.proofs.Common.{map-id, mod-eq_of_lt, mod-lt, mul-le-mul, mul-le-mul_right, mul_comm, pow-add, pow-suc, pow_pos, refl, replicate, set, subst}
pub use Rattle.std.proofs.Common.{suc, suc-add, sym, take, true, w32, w64, zero, zero-add, ℕ, ⊎_elim, ◌%◌, ◌*◌, ◌++◌, ◌+◌, ◌-◌, ◌/◌, ◌<◌, ◌^◌, ◌∙◌, ◌∷◌, ◌≡◌}
pub use Rattle.std.proofs.Common.{◌≤◌}
pub use Rattle.std.proofs.Math.Bridge.{le_prop}
pub use Rattle.std.proofs.Math.Nat.{add-mod_right, add-mul-mod_self_right, mod-add-div', mod_self, pow-zero, two-pow-succ}
pub use Rattle.std.proofs.lemmas.Bool.{cases_lt, cond-false, cond-true}
pub use Rattle.std.proofs.lemmas.List.{get_or-map, get_or_append_left, get_or_push, length-map, map-append, map-set}
pub use Rattle.std.proofs.lemmas.List.FromFn.{get_or-map-range_with_len}
pub use Rattle.std.proofs.lemmas.Nat.{and_mask, mul-mod, mul-mod_first}
pub use Rattle.std.proofs.lemmas.Nat.Gcd.{dvd_trans}
pub use Rattle.std.proofs.lemmas.Simd.{map-map, zip2_splat}
pub use Rattle.std.specs.Int.{IsGcd, ◌∣◌}
pub use Rattle.std.specs.List.{FoldsTo, range_with_len}
pub use Rattle.std.specs.Simd.Lanes.{Each1, digits_l, number_l, pick_l, sel_l, top, zip2}
pub use mir.Facts.{Fits-widen}
pub use Rattle.p3_field.specs.FieldLaws.{count-number}
pub use Rattle.p3_field.specs.Fields.{goldilocks_modulus}
pub use Rattle.p3_field.specs.LaneLaws.{length-elements_of}
pub use Rattle.p3_field.specs.LaneNumbers.{AreBelow, elements_of}
pub use Rattle.p3_field.specs.Lanes.{by_lanes}
pub use Rattle.p3_field.specs.ResidueLaws.{mul-mod-mod}
pub use Rattle.p3_field.specs.Residues.{IsProduct, Residue, residue-eq, residue_of, residues}
pub use Rattle.p3_field.specs.Ring.{AreRoots, IsInverse, IsInvertible, Ring, minus, two}
unfoldable pub use Rattle.p3_field.specs.Ring.{count, power, product_of, sum_of}
