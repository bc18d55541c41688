-- Pieces of text with a byte between each and the next, and lines one after another.
use Rattle.std.proofs.Common.{◌≡◌, ℕ, zero, suc, ◌+◌, ◌/◌, ◌%◌, ◌^◌, ◌<◌, ◌≤◌, List, [], ◌∷◌, ◌++◌, length, get_or, map, take, sym, ap, ◌∙◌}
use Rattle.std.proofs.Common.{append-nil, append_assoc, arith, rules}
use Rattle.std.proofs.lemmas.Fmt.{decimal_digit, decimal_step}
use Rattle.std.proofs.lemmas.List.{length-append, places, take_all, take_more, map-append}
use Rattle.std.proofs.lemmas.Simd.{map-map}
use Rattle.std.proofs.lemmas.Grind.{flat_map-append}
use Rattle.std.specs.Fmt.{decimal}
use Rattle.std.specs.List.{flat_map, join_with_byte}
use Rattle.dft_program.specs.Text.{line_of_numbers, spaced, text_of_rows}

module _ {X : Type 0} (c : ℕ) (f : X → List ℕ) where
  -- the byte stands before each piece but the first
  join-flat_map : (first : List ℕ) (xs : List X) → join_with_byte c (first ∷ map f xs) ≡ first ++ flat_map (λ x. c ∷ f x) xs
  join-flat_map first [] = sym (append-nil first)
  join-flat_map first (x ∷ xs) = ap (λ t. first ++ (c ∷ t)) (join-flat_map (f x) xs)

  -- the first piece was written, and then each other behind the byte
  pub joined : (old mid new : List ℕ) (all : List X) (first : X) (others : List X) (i : ℕ) → all ≡ first ∷ others → length others ≤ i
      → mid ≡ old ++ f first → new ≡ mid ++ flat_map (λ x. c ∷ f x) (take i others) → new ≡ old ++ join_with_byte c (map f all)
  joined old mid new all first others i parts end begun rest =
      rest ∙ ap (λ t. t ++ flat_map (λ x. c ∷ f x) (take i others)) begun
      ∙ append_assoc old (f first) (flat_map (λ x. c ∷ f x) (take i others))
      ∙ ap (λ t. old ++ t) (ap (λ xs. f first ++ flat_map (λ x. c ∷ f x) xs) (take_all i others end)
      ∙ sym (join-flat_map (f first) others) ∙ sym (ap (λ xs. join_with_byte c (map f xs)) parts))

-- the text of the first i + 1 rows
pub text-more : {X : Type 0} (f : X → List ℕ) (xs : List X) (i : ℕ) (d : X) → i < length xs
    → text_of_rows (map f (take (i + 1) xs)) ≡ text_of_rows (map f (take i xs)) ++ line_of_numbers (f (get_or xs i d))
text-more f xs i d h =
    ap (λ ys. text_of_rows (map f ys)) (take_more xs i d h)
    ∙ ap text_of_rows (map-append f (take i xs) (get_or xs i d ∷ []))
    ∙ flat_map-append line_of_numbers (map f (take i xs)) (f (get_or xs i d) ∷ [])
    ∙ ap (λ t. text_of_rows (map f (take i xs)) ++ t) (append-nil (line_of_numbers (f (get_or xs i d))))

-- a piece and those before it are a part of all
pub flat_part : {X : Type 0} (f : X → List ℕ) (xs : List X) (i : ℕ) (d : X) → i < length xs
    → length (flat_map f (take i xs)) + length (f (get_or xs i d)) ≤ length (flat_map f xs)
flat_part f [] i d within = absurd (omega arith)
flat_part f (x ∷ xs) zero d within = omega (arith, length-append (f x) (flat_map f xs))
flat_part f (x ∷ xs) (suc i) d within =
    omega (arith, length-append (f x) (flat_map f (take i xs)), length-append (f x) (flat_map f xs), flat_part f xs i d (omega arith))

-- and so is a row's line and the text of the rows before it
pub text_part : {X : Type 0} (f : X → List ℕ) (xs : List X) (i : ℕ) (d : X) → i < length xs
    → length (text_of_rows (map f (take i xs))) + length (line_of_numbers (f (get_or xs i d))) ≤ length (text_of_rows (map f xs))
text_part f [] i d within = absurd (omega arith)
text_part f (x ∷ xs) zero d within = omega (arith, length-append (line_of_numbers (f x)) (text_of_rows (map f xs)))
text_part f (x ∷ xs) (suc i) d within =
    omega (
      arith,
      length-append (line_of_numbers (f x)) (text_of_rows (map f (take i xs))),
      length-append (line_of_numbers (f x)) (text_of_rows (map f xs)),
      text_part f xs i d (omega arith),
    )

-- the first number and those behind spaces
pub spaced_size : {X : Type 0} (number : X → ℕ) (all : List X) (first : X) (others : List X) → all ≡ first ∷ others
    → length (spaced (map number all)) ≡ length (decimal (number first)) + length (flat_map (λ x. 32 ∷ decimal (number x)) others)
spaced_size number all first others parts =
    ap (λ pieces. length (join_with_byte 32 pieces)) (map-map decimal number all ∙ ap (map (λ x. decimal (number x))) parts)
    ∙ ap length (join-flat_map 32 (λ x. decimal (number x)) (decimal (number first)) others)
    ∙ length-append (decimal (number first)) (flat_map (λ x. 32 ∷ decimal (number x)) others)

-- a line has a byte more than its numbers
pub line_size : (numbers : List ℕ) → length (line_of_numbers numbers) ≡ length (spaced numbers) + 1
line_size numbers = length-append (spaced numbers) (10 ∷ [])

-- a piece that was written behind others
pub written_size : (old new piece : List ℕ) → new ≡ old ++ piece → length new ≡ length old + length piece
written_size old new piece is = ap length is ∙ length-append old piece

-- a byte more than one digit fewer
pub digit_more : (n : ℕ) → 10 ≤ n → n < 2 ^ 64 → length (decimal n) ≡ length (decimal (n / 10)) + 1
digit_more n two small = ap length (decimal_step n two small) ∙ length-append (decimal (n / 10)) ((48 + n % 10) ∷ [])

pub one_digit : (n : ℕ) → n < 10 → length (decimal n) ≡ 1
one_digit n small = ap length (decimal_digit n small)

pub taken_size : {X : Type 0} (xs : List X) (n : ℕ) → n ≤ length xs → length (take n xs) ≡ n
taken_size xs n within = search (rules, places)
