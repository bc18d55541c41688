-- The fields of this crate by their numbers: a modulus, a number with an inverse, and a root of unity of two-power order.
use Rattle.std.proofs.Common.{◌≡◌, ℕ, ◌-◌, ◌%◌, ◌<◌, ◌≤◌, refl, ap, ◌∙◌, arith, lit<, lit≤}
use Rattle.p3_field.specs.Residues.{Residue, residue-eq, residues}
use Rattle.p3_field.specs.Ring.{Ring, IsInvertible, AreRoots}
use Rattle.p3_field.specs.Squarings.{repeated_square}
use Rattle.p3_field.specs.FieldLaws.{roots_law}

-- what makes a field: the residues of an odd modulus, one with an inverse, and a root of unity of order 2 ^ two_adicity
pub record FieldNumbers : Type 0 where
  pub modulus : ℕ
  pub above : 1 < modulus
  pub odd : modulus % 2 ≡ 1
  pub generator : Residue modulus
  pub invertible : IsInvertible (residues modulus above odd) generator
  pub two_adicity : ℕ
  pub some : 1 ≤ two_adicity
  pub root : Residue modulus
  pub ends : repeated_square (residues modulus above odd) root two_adicity ≡ (residues modulus above odd).one
  pub ends_at_minus_one : repeated_square (residues modulus above odd) root (two_adicity - 1)
      ≡ (residues modulus above odd).neg (residues modulus above odd).one

module _ (f : FieldNumbers) where
  abbrev pub field_ring : Ring (Residue f.modulus)
  field_ring = residues f.modulus f.above f.odd

  -- of the subgroup of order 2 ^ bits
  abbrev pub field_generator : ℕ → Residue f.modulus
  field_generator bits = repeated_square field_ring f.root (f.two_adicity - bits)

  pub are_field_generators : AreRoots field_ring f.two_adicity field_generator
  are_field_generators =
      let all : f.two_adicity - 0 ≡ f.two_adicity = omega arith in
      roots_law field_ring f.root f.two_adicity (ap (repeated_square field_ring f.root) all ∙ f.ends) f.ends_at_minus_one

-- 2^31 - 2^27 + 1
abbrev pub baby_bear_modulus : ℕ
baby_bear_modulus = 2013265921

-- 31 has an inverse, and the root is of order 2^27
abbrev pub baby_bear_numbers : FieldNumbers
baby_bear_numbers = record {
  modulus = baby_bear_modulus;
  above = lit< tt;
  odd = refl;
  generator = record { number = 31; below = lit< tt };
  invertible = (record { number = 64944062; below = lit< tt }, residue-eq _ _ refl);
  two_adicity = 27;
  some = lit≤ tt;
  root = record { number = 440564289; below = lit< tt };
  ends = residue-eq _ _ refl;
  ends_at_minus_one = residue-eq _ _ refl;
}

-- 2^31 - 2^24 + 1
abbrev pub koala_bear_modulus : ℕ
koala_bear_modulus = 2130706433

-- 3 has an inverse, and the root is of order 2^24
abbrev pub koala_bear_numbers : FieldNumbers
koala_bear_numbers = record {
  modulus = koala_bear_modulus;
  above = lit< tt;
  odd = refl;
  generator = record { number = 3; below = lit< tt };
  invertible = (record { number = 710235478; below = lit< tt }, residue-eq _ _ refl);
  two_adicity = 24;
  some = lit≤ tt;
  root = record { number = 1791270792; below = lit< tt };
  ends = residue-eq _ _ refl;
  ends_at_minus_one = residue-eq _ _ refl;
}

-- 2^64 - 2^32 + 1
abbrev pub goldilocks_modulus : ℕ
goldilocks_modulus = 18446744069414584321

-- 7 has an inverse, and the root is of order 2^32
abbrev pub goldilocks_numbers : FieldNumbers
goldilocks_numbers = record {
  modulus = goldilocks_modulus;
  above = lit< tt;
  odd = refl;
  generator = record { number = 7; below = lit< tt };
  invertible = (record { number = 2635249152773512046; below = lit< tt }, residue-eq _ _ refl);
  two_adicity = 32;
  some = lit≤ tt;
  root = record { number = 1753635133440165772; below = lit< tt };
  ends = residue-eq _ _ refl;
  ends_at_minus_one = residue-eq _ _ refl;
}

abbrev pub goldilocks_ring : Ring (Residue goldilocks_modulus)
goldilocks_ring = field_ring goldilocks_numbers

-- of order 2^bits
abbrev pub goldilocks_generator : ℕ → Residue goldilocks_modulus
goldilocks_generator = field_generator goldilocks_numbers
