-- The words of a command line: what its answers reported of them.
use Rattle.std.specs.Prelude.{◌≡◌, ℕ, ◌+◌, ◌*◌, List, [], ◌∷◌, ◌++◌, Option, Some, None, Result, Ok, Err, length, max, take, ◌==◌, if◌then◌else◌}
use Rattle.std.specs.List.{sum_by}
use Rattle.std.specs.Str.{is_utf8}
use Rattle.dft_program.specs.Accounts.{Call}
use Rattle.dft_program.specs.Refusals.{RefusedWithin}
use Rattle.std.specs.declared.env.FillError.{FillError}
use Rattle.std.specs.declared.env.FillError.TheVariants.{NotPresent, TooLong}

-- what an answer reported of a place: the word that stands there, or that none does
pub record Told : Type 0 where
  pub place : ℕ
  pub word : Option (List ℕ)

-- what is known of a command line: what it reported, and how many bytes the longest buffer had that was too short for a word
pub record Heard : Type 0 where
  pub told : List Told
  pub too_short : ℕ

-- the same of a call of an account: a word where it did not fail
abbrev pub told_of : Call → Told
told_of call = record { place = call.place; word = if call.failures == 0 then Some call.bytes else None }

-- the text of a word: empty where the word is no UTF-8
abbrev pub text_of_word : List ℕ → List ℕ
text_of_word word = if is_utf8 word then word else []

-- a word, or that there is none, at a place
abbrev pub told_at : ℕ → Option (List ℕ) → List Told
told_at place word = record { place = place; word = word } ∷ []

-- what the answer to `word(place, buf)` reported
abbrev pub told_by : ℕ → Result ℕ FillError → List ℕ → List Told
told_by place (Ok n) buf = told_at place (Some (take n buf))
told_by place (Err NotPresent) buf = told_at place None
told_by place (Err TooLong) buf = []

-- how many bytes the longest buffer had that was too short for a word, with the answer to `word(place, buf)`
abbrev pub too_short_with : ℕ → Result ℕ FillError → List ℕ → ℕ
too_short_with longest (Ok n) buf = longest
too_short_with longest (Err NotPresent) buf = longest
too_short_with longest (Err TooLong) buf = max longest (length buf)

-- these words, one after another from the place on
abbrev pub words_from : ℕ → List (List ℕ) → List Told
words_from place [] = []
words_from place (word ∷ words) = record { place = place; word = Some word } ∷ words_from (place + 1) words

-- and none behind them
abbrev pub all_from : ℕ → List (List ℕ) → List Told
all_from place words = words_from place words ++ told_at (place + length words) None

-- since then all words behind the program's name were read, and none is left
abbrev pub ToldAll : List Told → List Told → List (List ℕ) → Type 0
ToldAll old new words = new ≡ old ++ all_from 1 words

-- since then these were read, the first of them
abbrev pub ToldFirst : List Told → List Told → List (List ℕ) → Type 0
ToldFirst old new words = new ≡ old ++ words_from 1 words

-- for how many elements a reader of these words needs room at most: a word has its bytes and one place in a list, and the
-- buffer 256 bytes at first, or twice as many as were too few
abbrev pub reading_room : ℕ → List (List ℕ) → ℕ
reading_room too_short words = 256 + 2 * too_short + sum_by (λ word. length word + 1) words

-- since then these were read, and memory was refused to their reader
abbrev pub RefusedReading : List Told → List Told → ℕ → Type 0
RefusedReading old new too_short = (words : List (List ℕ)) × ToldFirst old new words × RefusedWithin (reading_room too_short words)
