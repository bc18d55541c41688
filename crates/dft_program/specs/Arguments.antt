-- The words behind the operation's name: what they ask for, and what can be wrong with them.
use Rattle.std.specs.Prelude.{ℕ, zero, suc, ◌+◌, ◌*◌, ◌/◌, ◌%◌, ◌^◌, ◌==◌, Bool, false, not, ◌||◌, ◌&&◌, List, [], ◌∷◌}
use Rattle.std.specs.Prelude.{length, map, drop, slice_index, Option, Some, None, is_some, unwrap_or, Result, String}
use Rattle.std.specs.Prelude.{nat_le, nat_lt, if◌then◌else◌}
use Rattle.std.specs.Global.{Global}
use Rattle.std.specs.List.{list_any}
use Rattle.std.specs.String.{string_bytes}
use Rattle.dft_program.specs.declared.fault.Fault.{Fault}
use Rattle.dft_program.specs.declared.fault.Fault.TheVariants.{TooFewWords, NotANumber, NotBelowModulus, UnfitShape, NoInverse}
use Rattle.dft_program.specs.declared.names.Operation.{Operation}
use Rattle.dft_program.specs.declared.names.Operation.TheVariants.{Dft, CosetDft, Idft, CosetIdft, Lde, CosetLde}
use Rattle.dft_program.specs.Faults.{first_fault, unless_fault}
use Rattle.dft_program.specs.NumberedFields.{NumberedField, has_inverse}
use Rattle.dft_program.specs.Numbers.{number_of}

-- the number that a word is, where it is one
abbrev pub number_or_zero : List ℕ → ℕ
number_or_zero word = unwrap_or (number_of word) 0

-- those of a list of words
abbrev pub numbers_of : List (String Global) → List ℕ
numbers_of words = map (λ word. number_or_zero (string_bytes word)) words

-- one of the words is no number
abbrev pub has_no_number : List (List ℕ) → Bool
has_no_number words = list_any (λ word. not (is_some (number_of word))) words

-- one of the numbers is the modulus or more
abbrev pub reaches : ℕ → List ℕ → Bool
reaches modulus numbers = list_any (λ n. nat_le modulus n) numbers

-- how many words stand before the values: the added bits, the shift and the width, or those of them that the operation takes
abbrev pub settings : Operation → ℕ
settings Dft = 1
settings CosetDft = 2
settings Idft = 1
settings CosetIdft = 2
settings Lde = 2
settings CosetLde = 3

-- what an operation is asked for: a matrix of values, row after row, and two numbers that are zero where it takes none
pub record Arguments : Type 0 where
  pub added_bits : ℕ
  pub shift : ℕ
  pub width : ℕ
  pub values : List ℕ

abbrev pub arguments_of : Operation → List ℕ → Arguments
arguments_of Dft numbers = record { added_bits = 0; shift = 0; width = slice_index numbers 0; values = drop 1 numbers }
arguments_of CosetDft numbers = record { added_bits = 0; shift = slice_index numbers 0; width = slice_index numbers 1; values = drop 2 numbers }
arguments_of Idft numbers = record { added_bits = 0; shift = 0; width = slice_index numbers 0; values = drop 1 numbers }
arguments_of CosetIdft numbers = record { added_bits = 0; shift = slice_index numbers 0; width = slice_index numbers 1; values = drop 2 numbers }
arguments_of Lde numbers = record { added_bits = slice_index numbers 0; shift = 0; width = slice_index numbers 1; values = drop 2 numbers }
arguments_of CosetLde numbers = record {
  added_bits = slice_index numbers 0;
  shift = slice_index numbers 1;
  width = slice_index numbers 2;
  values = drop 3 numbers;
}

-- the n of at most bits with 2 ^ n = number
unfoldable pub logarithm : ℕ → ℕ → Option ℕ
logarithm zero number = if number == 1 then Some 0 else None
logarithm (suc bits) number = if number == 2 ^ suc bits then Some (suc bits) else logarithm bits number

-- a row is not empty, and 2 ^ log rows, extended by added bits, have a generator and entries that a usize counts
abbrev pub fits_at : ℕ → ℕ → ℕ → Option ℕ → Bool
fits_at two_adicity width added_bits None = false
fits_at two_adicity width added_bits (Some log) =
    nat_le (log + added_bits) two_adicity && (nat_le 1 width && nat_lt (width * 2 ^ (log + added_bits)) (2 ^ 64))

-- the height is such a power of two
abbrev pub fits_lde : ℕ → ℕ → ℕ → ℕ → Bool
fits_lde two_adicity height width added_bits = fits_at two_adicity width added_bits (logarithm two_adicity height)

-- so many values are no whole number of rows of this width, or the shape does not fit
abbrev pub is_unfit : ℕ → ℕ → ℕ → ℕ → Bool
is_unfit two_adicity count width added_bits =
    width == 0 || (not (count % width == 0) || not (fits_lde two_adicity (count / width) width added_bits))

-- the operation undoes a shift that has no inverse
abbrev pub cannot_undo : {A : Type 0} → NumberedField A → Operation → ℕ → Bool
cannot_undo f Dft shift = false
cannot_undo f CosetDft shift = false
cannot_undo f Idft shift = false
cannot_undo f CosetIdft shift = not (has_inverse f (f.element shift))
cannot_undo f Lde shift = false
cannot_undo f CosetLde shift = false

-- the faults in the order in which they are reported, each behind whether it is there
abbrev pub faults : {A : Type 0} → NumberedField A → Operation → List (List ℕ) → List (Bool × Fault)
faults f operation words =
    let a = arguments_of operation (map number_or_zero words) in
    (nat_le (length words) (settings operation), TooFewWords)
    ∷ (has_no_number words, NotANumber)
    ∷ (nat_le f.modulus a.shift || reaches f.modulus a.values, NotBelowModulus)
    ∷ (is_unfit f.two_adicity (length a.values) a.width a.added_bits, UnfitShape)
    ∷ (cannot_undo f operation a.shift, NoInverse)
    ∷ []

-- what the words ask for, or their first fault
abbrev pub arguments : {A : Type 0} → NumberedField A → Operation → List (List ℕ) → Result Arguments Fault
arguments f operation words =
    unless_fault (first_fault (faults f operation words)) (arguments_of operation (map number_or_zero words))
