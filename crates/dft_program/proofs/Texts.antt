-- Words, and their texts, ask for the same.
use Rattle.std.proofs.Common.{◌≡◌, ℕ, Bool, true, false, List, [], ◌∷◌, map, drop, Option, Some, None, Result, Ok, Err}
use Rattle.std.proofs.Common.{option_map, ◌&&◌, nat_lt, arith, refl, sym, ap, ◌∙◌, subst, if◌then◌else◌}
use Rattle.std.specs.List.{drop-map, list_all, slice_get}
use Rattle.std.specs.Str.{IsUtf8, bytes_eq, is_utf8}
use Rattle.std.proofs.lemmas.Slice.Eq.{bytes_eq-Decides}
use Rattle.std.proofs.lemmas.Str.{IsUtf8-from_ascii, is_utf8-from_IsUtf8}
use Rattle.std.proofs.lemmas.Str.Ascii.{IsAscii-from_all}
use Rattle.std.proofs.lemmas.Bool.Decides.{nat_tests}
use Rattle.std.proofs.lemmas.List.{length-map}
use Rattle.std.proofs.lemmas.List.Sums.{AllPass-from_list_all}
use Rattle.std.proofs.lemmas.Option.{slice_get-map}
use Rattle.p3_field.specs.Fields.{baby_bear_numbers, goldilocks_numbers}
use Rattle.dft_program.specs.declared.fault.Fault.{Fault}
use Rattle.dft_program.specs.declared.fault.Fault.TheVariants.{UnknownField, UnknownEngine, UnknownOperation}
use Rattle.dft_program.specs.declared.names.FieldName.{FieldName}
use Rattle.dft_program.specs.declared.names.FieldName.TheVariants.{BabyBear, Goldilocks}
use Rattle.dft_program.specs.declared.names.Operation.{Operation}
use Rattle.dft_program.specs.declared.program.Request.{Request}
use Rattle.dft_program.specs.Arguments.{arguments, has_no_number, number_or_zero}
use Rattle.dft_program.specs.Names.{behind, engine_named, engines, field_named, fields, operation_named, operations}
use Rattle.dft_program.specs.NumberedFields.{NumberedField, residue_field}
use Rattle.dft_program.specs.Numbers.{number_of}
use Rattle.dft_program.specs.Outcome.{FaultOr, HaveRefusedAnswer, IsOutcome, IsOutcomeIn, IsRefusedAnswer, Outcome, asked, named}
use Rattle.dft_program.specs.Words.{text_of_word}
use Rattle.dft_program.proofs.OneOutcome.{one_outcome}
use Rattle.dft_program.proofs.WordNumbers.{no_text}

-- what gives the same for a word that is no UTF-8 as for an empty one gives the same for each word as for its text
same_of_text : {T : Type 0} (f : List ℕ → T) → ((word : List ℕ) → (IsUtf8 word → ⊥) → f word ≡ f []) → (word : List ℕ) → f (text_of_word word) ≡ f word
same_of_text f h word = by_cases (is_utf8 word) refl
  where
    by_cases : (b : Bool) → is_utf8 word ≡ b → f (if b then word else []) ≡ f word
    by_cases true e = refl
    by_cases false e = sym (h word (λ is. absurd (cc (e, is_utf8-from_IsUtf8 word is))))

abbrev is_ascii : List ℕ → Bool
is_ascii name = list_all (λ b. nat_lt b 128) name

both : (a b : Bool) → (a && b) ≡ true → (a ≡ true) × (b ≡ true)
both true b e = (refl, e)
both false b e = absurd (cc)

is_ascii-All : (name : List ℕ) → is_ascii name ≡ true → IsUtf8 name
is_ascii-All name all =
    let passed = AllPass-from_list_all (λ b. nat_lt b 128) name all in
    IsUtf8-from_ascii name (IsAscii-from_all name (grind (arith, nat_tests, passed)))

-- names of ASCII are not such a word
unnamed : {T : Type 0} (word : List ℕ) → (IsUtf8 word → ⊥) → (rows : List (List ℕ × T)) → list_all (λ row. is_ascii row.0) rows ≡ true → behind word rows ≡ None
unnamed word h [] all = refl
unnamed {T} word h (row ∷ rows) all = step (bytes_eq word row.0) refl (unnamed word h rows parts.1)
  where
    parts : (is_ascii row.0 ≡ true) × (list_all (λ (row : List ℕ × T). is_ascii row.0) rows ≡ true)
    parts = both _ _ all

    is : bytes_eq word row.0 ≡ true → word ≡ row.0
    is e = (bytes_eq-Decides word row.0).0 e

    step : (b : Bool) → bytes_eq word row.0 ≡ b → behind word rows ≡ None → (if b then Some row.1 else behind word rows) ≡ None
    step true e later = absurd (h (subst IsUtf8 (sym (is e)) (is_ascii-All row.0 parts.0)))
    step false e later = later

field_of_text : (word : List ℕ) → field_named (text_of_word word) ≡ field_named word
field_of_text = same_of_text field_named (λ word h. unnamed word h fields refl)

engine_of_text : (word : List ℕ) → engine_named (text_of_word word) ≡ engine_named word
engine_of_text = same_of_text engine_named (λ word h. unnamed word h engines refl)

operation_of_text : (word : List ℕ) → operation_named (text_of_word word) ≡ operation_named word
operation_of_text = same_of_text operation_named (λ word h. unnamed word h operations refl)

number_of_text : (word : List ℕ) → number_of (text_of_word word) ≡ number_of word
unfolding number_of
number_of_text = same_of_text number_of (λ word h. no_text word h)

-- what the first words name
named_of_text : {T : Type 0} (names : List ℕ → Option T) (unknown : Fault) → ((word : List ℕ) → names (text_of_word word) ≡ names word)
    → (words : List (List ℕ)) (i : ℕ) → named names unknown (slice_get (map text_of_word words) i) ≡ named names unknown (slice_get words i)
named_of_text names unknown same words i = ap (named names unknown) (slice_get-map text_of_word words i) ∙ at (slice_get words i)
  where
    at : (word : Option (List ℕ)) → named names unknown (option_map text_of_word word) ≡ named names unknown word
    at None = refl
    at (Some word) = ap (λ found. named (λ _. found) unknown (Some word)) (same word)

asked_of_texts : (words : List (List ℕ)) → asked (map text_of_word words) ≡ asked words
asked_of_texts words =
    rw (
      named_of_text field_named UnknownField field_of_text words 0,
      named_of_text engine_named UnknownEngine engine_of_text words 1,
      named_of_text operation_named UnknownOperation operation_of_text words 2,
    ) refl

-- what the others ask for
numbers_of_texts : (words : List (List ℕ)) → map number_or_zero (map text_of_word words) ≡ map number_or_zero words
numbers_of_texts [] = refl
numbers_of_texts (word ∷ words) = rw (number_of_text word, numbers_of_texts words) refl

has_no_number-texts : (words : List (List ℕ)) → has_no_number (map text_of_word words) ≡ has_no_number words
has_no_number-texts [] = refl
has_no_number-texts (word ∷ words) = rw (number_of_text word, has_no_number-texts words) refl

arguments_of_texts : {A : Type 0} (f : NumberedField A) (operation : Operation) (words : List (List ℕ))
    → arguments f operation (map text_of_word words) ≡ arguments f operation words
arguments_of_texts f operation words = rw (length-map words text_of_word, has_no_number-texts words, numbers_of_texts words) refl

outcome_in : (field : FieldName) (operation : Operation) (words : List (List ℕ)) (o : Outcome)
    → IsOutcomeIn field operation (map text_of_word words) o → IsOutcomeIn field operation words o
outcome_in BabyBear operation words o is = rw (← arguments_of_texts (residue_field baby_bear_numbers) operation words) is
outcome_in Goldilocks operation words o is = rw (← arguments_of_texts (residue_field goldilocks_numbers) operation words) is

-- an outcome of the texts is one of the words
pub outcome_of_words : (words texts : List (List ℕ)) (o : Outcome) → texts ≡ map text_of_word words → IsOutcome texts o → IsOutcome words o
outcome_of_words words texts o are is =
    follows (asked words)
    (rw (← asked_of_texts words, ← drop-map text_of_word 3 words) (subst (λ (given : List (List ℕ)). IsOutcome given o) are is))
  where
    follows : (r : Result Request Fault) → FaultOr r (λ request. IsOutcomeIn request.field request.operation (map text_of_word (drop 3 words))) o
        → FaultOr r (λ request. IsOutcomeIn request.field request.operation (drop 3 words)) o
    follows (Ok request) is = outcome_in request.field request.operation (drop 3 words) o is
    follows (Err fault) is = is

-- so where the texts have an answer, which was refused, the words have it
pub refused_words : (words texts : List (List ℕ)) → texts ≡ map text_of_word words → HaveRefusedAnswer texts → HaveRefusedAnswer words
refused_words words texts are refused =
    let one = one_outcome words in
    let same : refused.0 ≡ one.0 = one.2 refused.0 (outcome_of_words words texts refused.0 are refused.1) in
    (one.0, one.1, one.2, subst IsRefusedAnswer same refused.3)
