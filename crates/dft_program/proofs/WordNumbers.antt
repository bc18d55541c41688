-- Words as numbers: digits, what `parse` of std gives for them, and the numbers of a list of words.
use Rattle.std.proofs.Common.{◌≡◌, ◌≢◌, ℕ, ◌<◌, ◌^◌, List, length, true, Result, Ok, Err, Some, None, get_or, rules}
use Rattle.std.proofs.Common.{arith, ap, sym, ◌∙◌, ◌-◌, String, map, take, drop, length-drop}
use Rattle.std.specs.Global.{Global}
use Rattle.std.specs.String.{string_bytes}
use Rattle.std.specs.Str.{all_ascii_digits, IsUtf8}
use Rattle.std.proofs.lemmas.Fmt.{IsAscii-from_digits}
use Rattle.std.proofs.lemmas.Str.{IsUtf8-from_ascii}
use Rattle.std.specs.Str.Parse.{ParsesUnsigned}
use Rattle.std.specs.Result.{result_ok, OkIff}
use Rattle.std.proofs.lemmas.Str.Parse.{IsNumeralModel, numerals_by_weight, not_in_digits, parse_plain}
use Rattle.std.proofs.lemmas.Bool.Decides.{nat_tests}
use Rattle.std.proofs.lemmas.List.{take_all, drop-map}
use Rattle.std.proofs.lemmas.Simd.{map-map}
use Rattle.dft_program.specs.Arguments.{number_or_zero, numbers_of}
use Rattle.dft_program.specs.Numbers.{value_of_digits, number_of}

-- digits and their value are those of `parse`
pub digits : IsNumeralModel (λ ds. all_ascii_digits ds ≡ true) value_of_digits
digits = numerals_by_weight _ (search rules) value_of_digits (search rules)

-- the word is a number
pub number-some : (word : List ℕ) → all_ascii_digits word ≡ true → 0 < length word → value_of_digits word < 2 ^ 64
    → number_of word ≡ Some (value_of_digits word)
unfolding number_of
number-some word d s b = grind (arith, nat_tests)

pub number-none : (word : List ℕ) → ((all_ascii_digits word ≡ true) × (0 < length word) × (value_of_digits word < 2 ^ 64) → ⊥) → number_of word ≡ None
unfolding number_of
number-none word h = grind (arith, nat_tests)

by_parse : {E : Type 0} (bs : List ℕ) (r : Result ℕ E)
    → OkIff r ((all_ascii_digits bs ≡ true) × (0 < length bs) × (value_of_digits bs < 2 ^ 64)) (value_of_digits bs)
    → result_ok r ≡ number_of bs
by_parse bs (Ok x) h = ap Some h.1 ∙ sym (number-some bs h.0.0 h.0.1 h.0.2)
by_parse bs (Err e) h = sym (number-none bs h)

pub parsed : {E : Type 0} (bs : List ℕ) (r : Result ℕ E) → ParsesUnsigned 64 10 bs r → get_or bs 0 0 ≢ 43 → result_ok r ≡ number_of bs
parsed bs r h plain = by_parse bs r (parse_plain digits 64 bs r h plain)

-- a sign is no digit
pub signed : (bs : List ℕ) → get_or bs 0 0 ≡ 43 → number_of bs ≡ None
signed bs h = number-none bs (λ p. not_in_digits digits bs 43 p.0 (λ r. omega arith) 0 p.1 h)

-- what is no UTF-8 is no number
pub no_text : (bs : List ℕ) → (IsUtf8 bs → ⊥) → number_of bs ≡ None
no_text bs h = number-none bs (λ p. h (IsUtf8-from_ascii bs (IsAscii-from_digits bs (digits.to bs p.0))))

-- the numbers of the words behind the first k
pub numbers_behind : (k : ℕ) (words : List (String Global))
    → numbers_of (take (length words - k) (drop k words)) ≡ drop k (map number_or_zero (map string_bytes words))
numbers_behind k words =
    ap numbers_of (take_all (length words - k) (drop k words) (omega (arith, length-drop k words)))
    ∙ sym (ap (drop k) (map-map number_or_zero string_bytes words) ∙ drop-map (λ word. number_or_zero (string_bytes word)) k words)
