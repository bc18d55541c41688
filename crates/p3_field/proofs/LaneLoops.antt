-- Lanes that a loop writes one after another: those below its counter hold what they are to hold, the others what they held.
use Rattle.p3_field.proofs.Names.{◌≡◌, ℕ, zero, suc, ◌+◌, ◌*◌, ◌<◌, List, [], ◌∷◌, ◌++◌, length, map, get_or, set, take, drop, replicate, refl, sym, ap, ap₂}
use Rattle.p3_field.proofs.Names.{◌∙◌, arith, map-set, get_or-map, get_or-set_other, get_or-set_same, length-map, length-set, by_lanes}
use borrow.Author.Count.{below_more}

-- the first i of t, and s from there on
abbrev pub until : {A : Type 0} → ℕ → List A → List A → List A
until i t s = take i t ++ drop i s

pub map-replicate : {T A : Type 0} (f : T → A) (n : ℕ) (x : T) → map f (replicate n x) ≡ replicate n (f x)
map-replicate f zero x = refl
map-replicate f (suc n) x = ap (λ xs. f x ∷ xs) (map-replicate f n x)

module _ {A : Type 0} where
  write_next : (s t : List A) (i : ℕ) (d : A) → i < length s → length t ≡ length s → set (until i t s) i (get_or t i d) ≡ until (suc i) t s
  write_next [] t i d below same = absurd (omega (arith, below))
  write_next (x ∷ s) [] i d below same = absurd (omega (arith, same))
  write_next (x ∷ s) (y ∷ t) zero d below same = refl
  write_next (x ∷ s) (y ∷ t) (suc i) d below same = ap (λ xs. y ∷ xs) (write_next s t i d (omega (arith, below)) (omega (arith, same)))

  read_next : (s t : List A) (i : ℕ) (d : A) → i < length s → length t ≡ length s → get_or (until i t s) i d ≡ get_or s i d
  read_next [] t i d below same = absurd (omega (arith, below))
  read_next (x ∷ s) [] i d below same = absurd (omega (arith, same))
  read_next (x ∷ s) (y ∷ t) zero d below same = refl
  read_next (x ∷ s) (y ∷ t) (suc i) d below same = read_next s t i d (omega (arith, below)) (omega (arith, same))

  pub until_all : (s t : List A) (i : ℕ) → i ≡ length s → length t ≡ length s → until i t s ≡ t
  until_all [] [] zero all same = refl
  until_all [] [] (suc i) all same = refl
  until_all [] (y ∷ t) i all same = absurd (omega (arith, same))
  until_all (x ∷ s) [] i all same = absurd (omega (arith, same))
  until_all (x ∷ s) (y ∷ t) zero all same = absurd (omega (arith, all))
  until_all (x ∷ s) (y ∷ t) (suc i) all same = ap (λ xs. y ∷ xs) (until_all s t i (omega (arith, all)) (omega (arith, same)))

  pub length-by_lanes : (op : A → A → A) (xs ys : List A) → length ys ≡ length xs → length (by_lanes op xs ys) ≡ length xs
  length-by_lanes op [] ys same = refl
  length-by_lanes op (x ∷ xs) [] same = absurd (omega (arith, same))
  length-by_lanes op (x ∷ xs) (y ∷ ys) same = ap suc (length-by_lanes op xs ys (omega (arith, same)))

  pub get_or-by_lanes : (op : A → A → A) (xs ys : List A) (i : ℕ) (d : A) → length ys ≡ length xs → i < length xs
      → get_or (by_lanes op xs ys) i d ≡ op (get_or xs i d) (get_or ys i d)
  get_or-by_lanes op [] ys i d same below = absurd (omega (arith, below))
  get_or-by_lanes op (x ∷ xs) [] i d same below = absurd (omega (arith, same))
  get_or-by_lanes op (x ∷ xs) (y ∷ ys) zero d same below = refl
  get_or-by_lanes op (x ∷ xs) (y ∷ ys) (suc i) d same below = get_or-by_lanes op xs ys i d (omega (arith, same)) (omega (arith, below))

-- what is written is t, over what were the values of xs
module _ {T A : Type 0} (f : T → A) (xs : List T) (t : List A) (same : length t ≡ length xs) where
  abbrev s : List A
  s = map f xs

  long : length s ≡ length xs
  long = length-map xs f

  pub written : (now : List T) (i : ℕ) (y : T) (d : A) → i < length xs → map f now ≡ until i t s → f y ≡ get_or t i d → map f (set now i y) ≡ until (i + 1) t s
  written now i y d below is value =
      map-set f now i y ∙ ap₂ (λ l v. set l i v) is value ∙ write_next s t i d (omega (arith, below, long)) (same ∙ sym long)
      ∙ ap (λ n. until n t s) next
    where
      next : suc i ≡ i + 1
      next = omega arith

  -- what is yet to be written is as it was
  pub still : (now : List T) (i : ℕ) (z : T) (d : A) → i < length xs → length now ≡ length xs → map f now ≡ until i t s → f (get_or now i z) ≡ get_or s i d
  still now i z d below full is =
      sym (get_or-map f now i z d (omega (arith, below, full))) ∙ ap (λ l. get_or l i d) is ∙ read_next s t i d (omega (arith, below, long)) (same ∙ sym long)

  pub all_written : (now : List T) (i : ℕ) → i ≡ length xs → map f now ≡ until i t s → map f now ≡ t
  all_written now i end is = is ∙ until_all s t i (end ∙ sym long) (same ∙ sym long)

-- an operation on two lanes, in the place of the first
module _ {T A : Type 0} (f : T → A) (op : A → A → A) (xs ys : List T) (same : length ys ≡ length xs) where
  abbrev pub pairs : List A
  pairs = by_lanes op (map f xs) (map f ys)

  pub length-pairs : length pairs ≡ length xs
  length-pairs = length-by_lanes op (map f xs) (map f ys) (length-map ys f ∙ same ∙ sym (length-map xs f)) ∙ length-map xs f

  pub more_pairs : (now : List T) (i : ℕ) (y p q : T) (n : ℕ) → n ≡ length xs → i < n → length now ≡ n → map f now ≡ until i pairs (map f xs)
      → f y ≡ op (f (get_or now i p)) (f (get_or ys i q)) → map f (set now i y) ≡ until (i + 1) pairs (map f xs)
  more_pairs now i y p q n wide less full is gives =
      let below : i < length xs = omega (arith, less, wide) in
      written f xs pairs length-pairs now i y (f p) below is
      (gives
      ∙ ap₂ op (still f xs pairs length-pairs now i p (f p) below (full ∙ wide) is) (sym (get_or-map f ys i q (f p) (omega (arith, below, same))))
      ∙ sym (get_or-by_lanes op (map f xs) (map f ys) i (f p) (length-map ys f ∙ same ∙ sym (length-map xs f)) (omega (arith, below, length-map xs f))))

-- an operation on each lane, in its place
module _ {T A : Type 0} (f : T → A) (op : A → A) (xs : List T) where
  pub more_images : (now : List T) (i : ℕ) (y p : T) (n : ℕ) → n ≡ length xs → i < n → length now ≡ n → map f now ≡ until i (map op (map f xs)) (map f xs)
      → f y ≡ op (f (get_or now i p)) → map f (set now i y) ≡ until (i + 1) (map op (map f xs)) (map f xs)
  more_images now i y p n wide less full is gives =
      let below : i < length xs = omega (arith, less, wide) in
      let same : length (map op (map f xs)) ≡ length xs = length-map (map f xs) op ∙ length-map xs f in
      written f xs (map op (map f xs)) same now i y (op (f p)) below is
      (gives ∙ ap op (still f xs (map op (map f xs)) same now i p (f p) below (full ∙ wide) is)
      ∙ sym (get_or-map op (map f xs) i (f p) (op (f p)) (omega (arith, below, length-map xs f))))

-- what a list has to hold at each place below the counter of a loop: z stands where there is none
module _ {T A : Type 0} (f : T → A) (z : T) (want : ℕ → A) where
  pub next_written : (now : List T) (i : ℕ) (y : T) → i < length now → ((k : ℕ) → k < i → f (get_or now k z) ≡ want k) → f y ≡ want i
      → (k : ℕ) → k < i + 1 → f (get_or (set now i y) k z) ≡ want k
  next_written now i y below so_far is = below_more (λ k. f (get_or (set now i y) k z) ≡ want k) i
      (λ k less. ap f (get_or-set_other now i k y z (λ same. absurd (omega (arith, same, less)))) ∙ so_far k less)
      (ap f (get_or-set_same now i y z below) ∙ is)

  -- the first ones of pairs
  pub next_first : (now : List T) (i : ℕ) (y y' : T) → 2 * i + 1 < length now → ((k : ℕ) → k < i → f (get_or now (2 * k) z) ≡ want k) → f y ≡ want i
      → (k : ℕ) → k < i + 1 → f (get_or (set (set now (2 * i) y) (2 * i + 1) y') (2 * k) z) ≡ want k
  next_first now i y y' below so_far is = below_more (λ k. f (get_or (set (set now (2 * i) y) (2 * i + 1) y') (2 * k) z) ≡ want k) i
      (λ k less. ap f (get_or-set_other (set now (2 * i) y) (2 * i + 1) (2 * k) y' z (λ same. absurd (omega (arith, same, less)))
      ∙ get_or-set_other now (2 * i) (2 * k) y z (λ same. absurd (omega (arith, same, less)))) ∙ so_far k less)
      (ap f (get_or-set_other (set now (2 * i) y) (2 * i + 1) (2 * i) y' z (λ same. absurd (omega (arith, same)))
      ∙ get_or-set_same now (2 * i) y z (omega (arith, below))) ∙ is)

  -- and the second ones
  pub next_second : (now : List T) (i : ℕ) (y y' : T) → 2 * i + 1 < length now → ((k : ℕ) → k < i → f (get_or now (2 * k + 1) z) ≡ want k) → f y' ≡ want i
      → (k : ℕ) → k < i + 1 → f (get_or (set (set now (2 * i) y) (2 * i + 1) y') (2 * k + 1) z) ≡ want k
  next_second now i y y' below so_far is = below_more (λ k. f (get_or (set (set now (2 * i) y) (2 * i + 1) y') (2 * k + 1) z) ≡ want k) i
      (λ k less. ap f (get_or-set_other (set now (2 * i) y) (2 * i + 1) (2 * k + 1) y' z (λ same. absurd (omega (arith, same, less)))
      ∙ get_or-set_other now (2 * i) (2 * k + 1) y z (λ same. absurd (omega (arith, same, less)))) ∙ so_far k less)
      (ap f (get_or-set_same (set now (2 * i) y) (2 * i + 1) y' z (omega (arith, below, length-set now (2 * i) y))) ∙ is)

-- two places for each lane
pub first_inside : {T : Type 0} (xs : List T) (i n : ℕ) → length xs ≡ 2 * n → i < n → 2 * i < length xs
first_inside xs i n wide less = omega (arith, wide, less)

pub second_inside : {T : Type 0} (xs : List T) (i n : ℕ) → length xs ≡ 2 * n → i < n → 2 * i + 1 < length xs
second_inside xs i n wide less = omega (arith, wide, less)
