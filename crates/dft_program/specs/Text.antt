-- The text of rows of numbers.
use Rattle.std.specs.Prelude.{ℕ, List, [], ◌∷◌, ◌++◌, map}
use Rattle.std.specs.List.{flat_map, join_with_byte}
use Rattle.std.specs.Fmt.{decimal}

-- the numbers in decimal, a space between each and the next
abbrev pub spaced : List ℕ → List ℕ
spaced numbers = join_with_byte 32 (map decimal numbers)

-- and a line feed at the end
abbrev pub line_of_numbers : List ℕ → List ℕ
line_of_numbers numbers = spaced numbers ++ 10 ∷ []

-- one line a row
abbrev pub text_of_rows : List (List ℕ) → List ℕ
text_of_rows rows = flat_map line_of_numbers rows
