-- Words that were told one after another, and their texts.
use Rattle.std.proofs.Common.{◌≡◌, ℕ, ◌+◌, ◌*◌, ◌≤◌, max, Bool, true, false, String, Vec, IfOk, IsOk, refl, subst, if◌then◌else◌, List}
use Rattle.std.proofs.Common.{[], ◌∷◌, ◌++◌, length, map, Option, Some, option_map, Result, Ok, Err, OnErr, ◌⊎◌, inl}
use Rattle.std.proofs.Common.{inr, ap, sym, ◌∙◌, add-zero, append-nil, append_assoc, arith}
use Rattle.std.proofs.lemmas.List.{length-map, map-append}
use Rattle.std.proofs.lemmas.Str.{IsUtf8-from_is_utf8, IsUtf8-string_bytes, is_utf8-from_IsUtf8}
use Rattle.std.proofs.lemmas.List.Sums.{sum_by-cons, sum_by_push}
use Rattle.std.specs.List.{sum_by}
use Rattle.std.specs.Result.{result_unwrap_or}
use Rattle.std.specs.Str.{IsUtf8, is_utf8}
use Rattle.std.specs.String.{string_bytes, string_vec}
use Rattle.std.specs.Vec.{vec_items}
use Rattle.std.specs.declared.env.FillError.{FillError}
use Rattle.std.specs.declared.env.FillError.TheVariants.{TooLong}
use Rattle.dft_program.specs.Refusals.{RefusedWithin}
use Rattle.dft_program.specs.Words.{RefusedReading, Told, ToldFirst, reading_room, text_of_word, told_at, told_by, too_short_with, words_from}
use Rattle.dft_program.proofs.Refused.{refused_more}

-- one more word
words_from-append : (place : ℕ) (words : List (List ℕ)) (word : List ℕ)
    → words_from place (words ++ word ∷ []) ≡ words_from place words ++ told_at (place + length words) (Some word)
words_from-append place [] word = ap (λ p. told_at p (Some word)) (sym (add-zero place))
words_from-append place (first ∷ words) word =
    let behind : (place + 1) + length words ≡ place + length (first ∷ words) = omega arith in
    ap (λ told. record { place = place; word = Some first } ∷ told)
    (words_from-append (place + 1) words word ∙ ap (λ p. words_from (place + 1) words ++ told_at p (Some word)) behind)

-- after the words so far, a word behind them
module _ (old mid new : List Told) (words : List (List ℕ)) (n : ℕ) (so_far : ToldFirst old mid words) (many : n ≡ length words) where
  one_more : (word : List ℕ) → new ≡ mid ++ told_at (1 + n) (Some word) → ToldFirst old new (words ++ word ∷ [])
  one_more word is =
      is ∙ ap (λ told. told ++ told_at (1 + n) (Some word)) so_far
      ∙ append_assoc old (words_from 1 words) (told_at (1 + n) (Some word))
      ∙ ap (λ k. old ++ (words_from 1 words ++ told_at (1 + k) (Some word))) many
      ∙ ap (λ told. old ++ told) (sym (words_from-append 1 words word))

-- each word takes a place in the room for reading them
words_room : (words : List (List ℕ)) → length words ≤ sum_by (λ word. length word + 1) words
words_room [] = omega arith
words_room (word ∷ words) = omega (arith, words_room words, sum_by-cons (λ word. length word + 1) word words)

-- since then words were told whose texts were kept
abbrev pub KeptFirst : {X : Type 0} → (X → List ℕ) → List Told → List Told → List X → Type 0
KeptFirst bytes old new kept = (words : List (List ℕ)) × ToldFirst old new words × (map bytes kept ≡ map text_of_word words)

-- the same of texts that were kept, and of a word that may have been there
module _ {X : Type 0} (bytes : X → List ℕ) (old mid new : List Told) (kept : List X) (n : ℕ)
    (so_far : KeptFirst bytes old mid kept) (many : n ≡ length kept) where
  as_many : n ≡ length so_far.0
  as_many = many ∙ sym (length-map kept bytes) ∙ ap length so_far.2 ∙ length-map so_far.0 text_of_word

  -- memory was refused to the buffer, or to the word
  pub refused_next : (too_short : ℕ) → ((new ≡ mid) × RefusedWithin (2 * too_short))
      ⊎ ((word : List ℕ) × (new ≡ mid ++ told_at (1 + n) (Some word)) × RefusedWithin (length word)) → RefusedReading old new too_short
  refused_next too_short (inl (same, was)) =
      (so_far.0, same ∙ so_far.1, refused_more (2 * too_short) (reading_room too_short so_far.0) (omega arith) was)
  refused_next too_short (inr (word, is, was)) = (
    so_far.0 ++ word ∷ [],
    one_more old mid new so_far.0 n so_far.1 as_many word is,
    refused_more (length word) (reading_room too_short (so_far.0 ++ word ∷ []))
        (omega (arith, sum_by_push (λ word. length word + 1) so_far.0 word)) was,
  )

  module _ {W : Type 0} (view : W → List ℕ) (found : Option W) (word : W)
      (is : new ≡ mid ++ told_at (1 + n) (option_map view found)) (there : found ≡ Some word) where
    pub one_told : ToldFirst old new (so_far.0 ++ view word ∷ [])
    one_told =
        one_more old mid new so_far.0 n so_far.1 as_many (view word)
        (is ∙ ap (λ (found : Option W). mid ++ told_at (1 + n) (option_map view found)) there)

    -- memory was refused to the list of the texts
    pub refused_kept : (too_short : ℕ) → RefusedWithin (n + 1) → RefusedReading old new too_short
    refused_kept too_short was = (
      so_far.0 ++ view word ∷ [],
      one_told,
      refused_more (n + 1) (reading_room too_short (so_far.0 ++ view word ∷ []))
          (omega (arith, as_many, words_room so_far.0, sum_by_push (λ word. length word + 1) so_far.0 (view word))) was,
    )

    pub one_kept : (text : X) → bytes text ≡ text_of_word (view word) → KeptFirst bytes old new (kept ++ text ∷ [])
    one_kept text same = (
      so_far.0 ++ view word ∷ [],
      one_told,
      map-append bytes kept (text ∷ [])
          ∙ ap (λ texts. texts ++ bytes text ∷ []) so_far.2
          ∙ ap (λ t. map text_of_word so_far.0 ++ t ∷ []) same
          ∙ sym (map-append text_of_word so_far.0 (view word ∷ [])),
    )

-- the text of a word is what was read of it, where that is UTF-8
pub text_of : {Z E : Type 0} (word : Vec ℕ Z) (read : Result (String Z) E) (empty : String Z)
    → IfOk read (λ text. string_vec text ≡ word) → (IsUtf8 (vec_items word) → IsOk read)
    → string_bytes empty ≡ [] → string_bytes (result_unwrap_or read empty) ≡ text_of_word (vec_items word)
text_of word (Ok text) empty same reads none =
    let bytes : string_bytes text ≡ vec_items word = ap vec_items same in
    rw (is_utf8-from_IsUtf8 (vec_items word) (subst IsUtf8 bytes (IsUtf8-string_bytes text))) bytes
text_of word (Err error) empty same reads none = by_cases (is_utf8 (vec_items word)) refl
  where
    by_cases : (b : Bool) → is_utf8 (vec_items word) ≡ b → string_bytes empty ≡ (if b then vec_items word else [])
    by_cases true e = absurd (cc (reads (IsUtf8-from_is_utf8 (vec_items word) e)))
    by_cases false e = none

-- what holds at all holds of an error
pub on_err : {T E P : Type 0} (r : Result T E) → P → OnErr r P
on_err (Ok value) p = tt
on_err (Err error) p = p

-- an answer that the buffer is too short tells no word, but how long it is
pub untold : (place : ℕ) (buf : List ℕ) (old mid new : List Told) {r : Result ℕ FillError} {s : FillError} → r ≡ Err s → s ≡ TooLong
    → new ≡ mid ++ told_by place r buf → mid ≡ old → new ≡ old
untold place buf old mid new is too_long told so_far =
    told ∙ ap (λ (r : Result ℕ FillError). mid ++ told_by place r buf) (is ∙ ap Err too_long) ∙ append-nil mid ∙ so_far

pub too_short : (buf : List ℕ) (before after : ℕ) {r : Result ℕ FillError} {s : FillError} → r ≡ Err s → s ≡ TooLong
    → after ≡ too_short_with before r buf → length buf ≤ after
too_short buf before after is too_long told =
    let longest : after ≡ max before (length buf) = told ∙ ap (λ (r : Result ℕ FillError). too_short_with before r buf) (is ∙ ap Err too_long) in
    omega (arith, longest)
