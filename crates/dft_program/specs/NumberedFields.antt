-- Fields whose elements have numbers.
use Rattle.std.specs.Prelude.{ℕ, ◌==◌, Bool}
use Rattle.std.specs.List.{list_any, range_with_len}
use Rattle.p3_field.specs.declared.fields.Valued.{Ghosts as FieldMembers}
use Rattle.p3_field.specs.Fields.{FieldNumbers, field_generator, field_ring}
use Rattle.p3_field.specs.Residues.{Residue, residue_of}
use Rattle.p3_field.specs.Ring.{Ring}

-- a field as the program reads and prints it
pub record NumberedField (A : Type 0) : Type 0 where
  pub ring : Ring A
  -- of the subgroup of order 2 ^ n
  pub generator : ℕ → A
  -- the largest such n
  pub two_adicity : ℕ
  -- each element has a number below it
  pub modulus : ℕ
  pub number : A → ℕ
  -- the element with a number
  pub element : ℕ → A

-- a field of the program, whose elements have the values that element names
abbrev pub numbered : {F : Type 0} (f : FieldMembers F) → (ℕ → F) → ℕ → ℕ → (ℕ → f.Element) → NumberedField f.Element
numbered f generator two_adicity modulus element = record {
  ring = f.ring;
  generator = λ n. f.value (generator n);
  two_adicity = two_adicity;
  modulus = modulus;
  number = f.number;
  element = element;
}

-- the field that these numbers make
abbrev pub residue_field : (f : FieldNumbers) → NumberedField (Residue f.modulus)
residue_field f = record {
  ring = field_ring f;
  generator = field_generator f;
  two_adicity = f.two_adicity;
  modulus = f.modulus;
  number = λ x. x.number;
  element = residue_of f.modulus f.above f.odd;
}

-- the same as the members of a field whose elements are their own values
abbrev pub members : {A : Type 0} → NumberedField A → FieldMembers A
members {A} f = record {
  Element = A;
  ring = f.ring;
  number = f.number;
  value = λ x. x;
  zero = f.ring.zero;
}

-- some number below the modulus names an inverse of x
unfoldable pub has_inverse : {A : Type 0} → NumberedField A → A → Bool
has_inverse f x = list_any (λ n. f.number (f.ring.mul x (f.element n)) == f.number f.ring.one) (range_with_len 0 f.modulus)
