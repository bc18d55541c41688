-- Lanes of 32 bits, two by two, as lanes of 64 bits and back: a vector's bytes are read in the other width.
use Rattle.p3_field.proofs.Names.{◌≡◌, ℕ, zero, suc, ◌+◌, ◌*◌, ◌/◌, ◌%◌, ◌<◌, ◌≤◌, ◌^◌, List, [], ◌∷◌, ◌++◌, length, map, replicate, get_or, refl, sym, ap, ◌∙◌}
use Rattle.p3_field.proofs.Names.{subst, arith, pow-suc, lit<, div-add-mod', div-lt_iff_lt-mul, mod-eq_of_lt, mul-le-mul, pow-zero, and_mask, pow-add}
use Rattle.p3_field.proofs.Names.{length-map, map-map, zip2_splat, bit_and, Each1, zip2, number_l, digits_l, pick_l, w32, Fits}
use Rattle.p3_field.proofs.Lists.{entries, all_entries}
use Rattle.p3_field.proofs.ResidueLanes.{each_below, each_joined}

-- the number that a list of digits stands for, below p ^ n, is that of its n digits
number_of_digits : (p n x : ℕ) → 0 < p → x < p ^ n → number_l p (digits_l p n x) ≡ x
number_of_digits p zero x some below = omega (arith, below, pow-zero p)
number_of_digits p (suc n) x some below =
    let less : x / p < p ^ n = (div-lt_iff_lt-mul some).1 (rw (← pow-suc p n) below) in
    rw (number_of_digits p n (x / p) some less) (omega (arith, div-add-mod' x p))

-- a word more, before n words
bytes_of_word : (n w rest : ℕ) → w < 18446744073709551616 → rest < 256 ^ (8 * n) → w + 18446744073709551616 * rest < 256 ^ (8 * suc n)
bytes_of_word n w rest word below =
    let power : 256 ^ (8 * suc n) ≡ 18446744073709551616 * 256 ^ (8 * n) = ap (λ k. 256 ^ k) (omega arith) ∙ pow-add 256 8 (8 * n) in
    omega (arith, word, below, power)

-- ---- lists of lanes as lists of words
abbrev twice : ℕ → ℕ
twice zero = zero
twice (suc n) = suc (suc (twice n))

abbrev joined : List ℕ → List ℕ
joined (a ∷ b ∷ xs) = (a + 4294967296 * b) ∷ joined xs
joined (a ∷ []) = []
joined [] = []

abbrev halved : List ℕ → List ℕ
halved (w ∷ ws) = w % 4294967296 ∷ w / 4294967296 ∷ halved ws
halved [] = []

-- the words of twice n lanes: their number, their digits and how many they are
words_known : (n : ℕ) (xs : List ℕ) → length xs ≡ twice n → Each1 (Fits w32) xs
    → (number_l 4294967296 xs < 256 ^ (8 * n)) × (digits_l 18446744073709551616 n (number_l 4294967296 xs) ≡ joined xs) × (length (joined xs) ≡ n)
words_known zero [] long fits = (lit< tt, refl, refl)
words_known zero (x ∷ xs) long fits = absurd (omega (arith, long))
words_known (suc n) [] long fits = absurd (omega (arith, long))
words_known (suc n) (a ∷ []) long fits = absurd (omega (arith, long))
words_known (suc n) (a ∷ b ∷ xs) long (A, (B, fits)) =
    let rest : ℕ = number_l 4294967296 xs in
    let known = words_known n xs (omega (arith, long)) fits in
    let word : a + 4294967296 * b < 18446744073709551616 = omega (arith, A.fits, B.fits) in
    let low : (a + 4294967296 * (b + 4294967296 * rest)) % 18446744073709551616 ≡ a + 4294967296 * b = omega (arith, word) in
    let high : (a + 4294967296 * (b + 4294967296 * rest)) / 18446744073709551616 ≡ rest = omega (arith, word) in (
      omega (arith, bytes_of_word n (a + 4294967296 * b) rest word known.0),
      (λ i. low i ∷ digits_l 18446744073709551616 n (high i)) ∙ ap (λ l. (a + 4294967296 * b) ∷ l) known.1,
      ap suc known.2,
    )

-- and the lanes of n words
lanes_known : (n : ℕ) (ws : List ℕ) → length ws ≡ n → Each1 (λ w. w < 18446744073709551616) ws
    → (number_l 18446744073709551616 ws < 256 ^ (8 * n)) × (digits_l 4294967296 (twice n) (number_l 18446744073709551616 ws) ≡ halved ws)
lanes_known zero [] long below = (lit< tt, refl)
lanes_known zero (w ∷ ws) long below = absurd (omega (arith, long))
lanes_known (suc n) [] long below = absurd (omega (arith, long))
lanes_known (suc n) (w ∷ ws) long (word, below) =
    let rest : ℕ = number_l 18446744073709551616 ws in
    let known = lanes_known n ws (omega (arith, long)) below in
    let first : (w + 18446744073709551616 * rest) % 4294967296 ≡ w % 4294967296 = omega arith in
    let second : (w + 18446744073709551616 * rest) / 4294967296 % 4294967296 ≡ w / 4294967296 = omega (arith, word) in
    let high : (w + 18446744073709551616 * rest) / 4294967296 / 4294967296 ≡ rest = omega (arith, word) in (
      bytes_of_word n w rest word known.0,
      (λ i. first i ∷ second i ∷ digits_l 4294967296 (twice n) (high i)) ∙ ap (λ l. w % 4294967296 ∷ w / 4294967296 ∷ l) known.1,
    )

-- ---- the product of the lower half of a word
abbrev low_product : ℕ → ℕ → ℕ
low_product q w = (bit_and w 4294967295 * q) % 18446744073709551616

product_is : (q a b : ℕ) → q < 4294967296 → a < 4294967296 → low_product q (a + 4294967296 * b) ≡ a * q
product_is q a b factor lane =
    let masked : bit_and (a + 4294967296 * b) 4294967295 ≡ a = and_mask (a + 4294967296 * b) 32 ∙ omega (arith, lane) in
    let a_most : a ≤ 4294967295 = omega (arith, lane) in
    let q_most : q ≤ 4294967295 = omega (arith, factor) in
    let most : a * q ≤ 4294967295 * 4294967295 = mul-le-mul a_most q_most in
    ap (λ k. (k * q) % 18446744073709551616) masked ∙ mod-eq_of_lt (omega (arith, most))

product_fits : (q w : ℕ) → low_product q w < 18446744073709551616
product_fits q w = omega arith

-- the products of the lanes in even places, in two halves each
abbrev even_products : ℕ → List ℕ → List ℕ
even_products q (a ∷ b ∷ xs) = a * q % 4294967296 ∷ a * q / 4294967296 ∷ even_products q xs
even_products q (a ∷ []) = []
even_products q [] = []

even_products_are : (q : ℕ) (xs : List ℕ) → q < 4294967296 → Each1 (Fits w32) xs → halved (map (low_product q) (joined xs)) ≡ even_products q xs
even_products_are q [] factor fits = refl
even_products_are q (a ∷ []) factor fits = refl
even_products_are q (a ∷ b ∷ xs) factor (A, (B, fits)) =
    λ i. product_is q a b factor A.fits i % 4294967296 ∷ product_is q a b factor A.fits i / 4294967296 ∷ even_products_are q xs factor fits i

-- how vectors of n words make them
abbrev products_of_words : ℕ → ℕ → List ℕ → List ℕ
products_of_words n q xs =
    digits_l 4294967296 (twice n) (number_l 256 (digits_l 256 (8 * n) (number_l 18446744073709551616
    (zip2 (λ x y. (x * y) % 18446744073709551616)
    (zip2 bit_and (digits_l 18446744073709551616 n (number_l 256 (digits_l 256 (8 * n) (number_l 4294967296 xs)))) (replicate n 4294967295))
    (replicate n q)))))

products_of_words_are : (n q : ℕ) (xs : List ℕ) → q < 4294967296 → length xs ≡ twice n → Each1 (Fits w32) xs → products_of_words n q xs ≡ even_products q xs
products_of_words_are n q xs factor long fits =
    let words = words_known n xs long fits in
    let products = map (low_product q) (joined xs) in
    let lanes = lanes_known n products (length-map (joined xs) (low_product q) ∙ words.2) (each_below (low_product q) (product_fits q) (joined xs)) in
    let wrapped = λ (x y : ℕ). (x * y) % 18446744073709551616 in
    let masked = λ (x : ℕ). bit_and x 4294967295 in
    let lane_by_lane : zip2 wrapped (zip2 bit_and (joined xs) (replicate n 4294967295)) (replicate n q) ≡ products =
    ap (λ ws. zip2 wrapped ws (replicate n q)) (zip2_splat bit_and (joined xs) n 4294967295 words.2)
    ∙ zip2_splat wrapped (map masked (joined xs)) n q (length-map (joined xs) masked ∙ words.2)
    ∙ map-map _ _ (joined xs) in
    let bytes = λ (x : ℕ). number_l 256 (digits_l 256 (8 * n) x) in
    let out = λ (ws : List ℕ). digits_l 4294967296 (twice n) (bytes (number_l 18446744073709551616 ws)) in
    ap (λ k. out (zip2 wrapped (zip2 bit_and (digits_l 18446744073709551616 n k) (replicate n 4294967295)) (replicate n q)))
    (number_of_digits 256 (8 * n) (number_l 4294967296 xs) (lit< tt) words.0)
    ∙ ap (λ ws. out (zip2 wrapped (zip2 bit_and ws (replicate n 4294967295)) (replicate n q))) words.1
    ∙ ap out lane_by_lane
    ∙ ap (digits_l 4294967296 (twice n)) (number_of_digits 256 (8 * n) (number_l 18446744073709551616 products) (lit< tt) lanes.0)
    ∙ lanes.1 ∙ even_products_are q xs factor fits

-- what is picked of lanes fits as they do
picked_fit : (xs : List ℕ) (ks : List ℕ) → Each1 (Fits w32) xs → Each1 (Fits w32) (pick_l 0 xs ks)
picked_fit xs [] fits = tt
picked_fit xs (k ∷ ks) fits = (fits_at xs k fits, picked_fit xs ks fits)
  where
    fits_at : (xs : List ℕ) (k : ℕ) → Each1 (Fits w32) xs → Fits w32 (get_or xs k 0)
    fits_at [] k fits = record { fits = lit< tt }
    fits_at (x ∷ xs) zero fits = fits.0
    fits_at (x ∷ xs) (suc k) fits = fits_at xs k fits.1

-- the lanes in odd places from i on, each twice
abbrev odd_lanes : ℕ → ℕ → List ℕ
odd_lanes i zero = []
odd_lanes i (suc n) = (i + 1) ∷ (i + 1) ∷ odd_lanes (i + 2) n

-- where the upper halves of n products stand in one vector, and in one of k lanes before it
abbrev upper_places : ℕ → ℕ → ℕ → List ℕ
upper_places k i zero = []
upper_places k i (suc n) = (i + 1) ∷ (k + i + 1) ∷ upper_places k (i + 2) n

-- That these are the right places is seen by computing, at each width.
pub upper_halves_of_lanes : (n q : ℕ) (xs : List ℕ) → q < 4294967296 → length xs ≡ twice n → Each1 (Fits w32) xs
    → length (pick_l 0 (xs ++ xs) (odd_lanes 0 n)) ≡ twice n
    → (let ys = entries (twice n) xs 0 in
    pick_l 0 (even_products q ys ++ even_products q (pick_l 0 (ys ++ ys) (odd_lanes 0 n))) (upper_places (twice n) 0 n) ≡ map (λ x. x * q / 4294967296) ys)
    → pick_l 0 (products_of_words n q xs ++ products_of_words n q (pick_l 0 (xs ++ xs) (odd_lanes 0 n)))
    (upper_places (twice n) 0 n)
    ≡ map (λ x. x * q / 4294967296) xs
upper_halves_of_lanes n q xs factor long fits long_odd computed =
    (λ i. pick_l 0 (products_of_words_are n q xs factor long fits i
    ++ products_of_words_are n q (pick_l 0 (xs ++ xs) (odd_lanes 0 n)) factor long_odd
    (picked_fit (xs ++ xs) (odd_lanes 0 n) (each_joined (Fits w32) xs xs fits fits)) i)
    (upper_places (twice n) 0 n))
    ∙ subst (λ ys. pick_l 0 (even_products q ys ++ even_products q (pick_l 0 (ys ++ ys) (odd_lanes 0 n)))
    (upper_places (twice n) 0 n)
    ≡ map (λ x. x * q / 4294967296) ys)
    (sym (all_entries (twice n) xs 0 long)) computed
