-- Numbers as words of ASCII digits.
use Rattle.std.specs.Prelude.{ℕ, ◌+◌, ◌-◌, ◌*◌, ◌^◌, ◌==◌, List, [], ◌∷◌, length, Option, Some, None, ◌&&◌, not, nat_lt, if◌then◌else◌}
use Rattle.std.specs.Str.{all_ascii_digits}

-- the number that decimal digits write: each digit by the weight of its place
abbrev pub value_of_digits : List ℕ → ℕ
value_of_digits [] = 0
value_of_digits (digit ∷ digits) = (digit - 48) * 10 ^ length digits + value_of_digits digits

-- the number that a word is: one or more digits of a value below 2 ^ 64
unfoldable pub number_of : List ℕ → Option ℕ
number_of word =
    if not (length word == 0) && (all_ascii_digits word && nat_lt (value_of_digits word) (2 ^ 64))
    then Some (value_of_digits word) else None
