-- Arithmetic modulo 2^64 - 2^32 + 1 on the lanes of a vector of words of 64 bits.
use Rattle.p3_field.proofs.Names.{◌≡◌, ℕ, zero, suc, ◌+◌, ◌-◌, ◌*◌, ◌/◌, ◌%◌, ◌<◌, ◌≤◌, ◌^◌, Bool, true, false, cond, List, [], ◌∷◌, length, map, replicate}
use Rattle.p3_field.proofs.Names.{refl, sym, ap, ap₂, ◌∙◌, arith, ⊎_elim, ltb, mod-eq_of_lt, add-mul-mod_self_right, mul-le-mul, mod-add-div', and_mask}
use Rattle.p3_field.proofs.Names.{bit_and, cases_lt, lt-ltb, le-ltb, cond-true, cond-false, Each1, zip2, sel_l, top, w64, Fits, goldilocks_modulus, AreBelow}

-- what a lane's operations give, modulo 2^64
abbrev word_sum : ℕ → ℕ → ℕ
word_sum x y = (x + y) % 18446744073709551616

abbrev word_difference : ℕ → ℕ → ℕ
word_difference x y = (x + (18446744073709551616 - y)) % 18446744073709551616

-- what a comparison leaves in a lane, and what is selected by it
abbrev word_mask : ℕ → ℕ → ℕ
word_mask x y = cond (ltb x y) 18446744073709551615 0

chosen_word : (b : Bool) (x y : ℕ) → cond (top 63 (cond b 18446744073709551615 0)) x y ≡ cond b x y
chosen_word true x y = refl
chosen_word false x y = refl

if_less : (x y a b : ℕ) → x < y → cond (top 63 (word_mask x y)) a b ≡ a
if_less x y a b l = chosen_word (ltb x y) a b ∙ cond-true (ltb x y) a b (lt-ltb x y l)

if_not_less : (x y a b : ℕ) → y ≤ x → cond (top 63 (word_mask x y)) a b ≡ b
if_not_less x y a b l = chosen_word (ltb x y) a b ∙ cond-false (ltb x y) a b (le-ltb x y l)

-- ---- one lane
lane_sum : (x y : ℕ) → x < goldilocks_modulus → y < goldilocks_modulus
    → word_difference (word_sum x (word_sum y 4294967295))
    (cond (top 63 (word_mask x (word_sum x (word_sum y 4294967295)))) 4294967295 0)
    ≡ (x + y) % goldilocks_modulus
lane_sum x y a b =
    let s : ℕ = word_sum x (word_sum y 4294967295) in
    let s_is : s ≡ (x + y + 4294967295) % 18446744073709551616 = omega (arith, b) in
    ⊎_elim
    (λ above. ap (word_difference s) (if_less x s 4294967295 0 above) ∙ omega (arith, s_is, above, a, b))
    (λ wraps. ap (word_difference s) (if_not_less x s 4294967295 0 wraps) ∙ omega (arith, s_is, wraps, a, b))
    (cases_lt x s)

lane_difference : (x y : ℕ) → x < goldilocks_modulus → y < goldilocks_modulus
    → word_difference (word_difference x y) (cond (top 63 (word_mask x y)) 4294967295 0) ≡ (x + (goldilocks_modulus - y)) % goldilocks_modulus
lane_difference x y a b =
    let d : ℕ = word_difference x y in
    ⊎_elim
    (λ less. ap (word_difference d) (if_less x y 4294967295 0 less) ∙ omega (arith, less, a, b))
    (λ reaches. ap (word_difference d) (if_not_less x y 4294967295 0 reaches) ∙ omega (arith, reaches, a, b))
    (cases_lt x y)

-- ---- all lanes
-- a where a lane of xs is above that of ys, and b elsewhere
abbrev all_above : ℕ → List ℕ → List ℕ → ℕ → ℕ → List ℕ
all_above n xs ys a b = sel_l (map (top 63) (zip2 word_mask ys xs)) (replicate n a) (replicate n b)

abbrev less_sums : ℕ → List ℕ → List ℕ → List ℕ
less_sums n xs ys = zip2 word_sum xs (zip2 word_sum ys (replicate n 4294967295))

pub goldilocks_sums : (xs ys : List ℕ) (n : ℕ) → length xs ≡ n → length ys ≡ n → AreBelow goldilocks_modulus xs → AreBelow goldilocks_modulus ys
    → zip2 word_difference (less_sums n xs ys) (all_above n (less_sums n xs ys) xs 4294967295 0)
    ≡ zip2 (λ x y. (x + y) % goldilocks_modulus) xs ys
goldilocks_sums [] ys n e f a b = refl
goldilocks_sums (x ∷ xs) [] n e f a b = absurd (omega (arith, e, f))
goldilocks_sums (x ∷ xs) (y ∷ ys) zero e f a b = absurd (omega (arith, e))
goldilocks_sums (x ∷ xs) (y ∷ ys) (suc n) e f a b = ap₂ ◌∷◌ (lane_sum x y a.0 b.0) (goldilocks_sums xs ys n (omega (arith, e)) (omega (arith, f)) a.1 b.1)

pub goldilocks_differences : (xs ys : List ℕ) (n : ℕ) → length xs ≡ n → AreBelow goldilocks_modulus xs → AreBelow goldilocks_modulus ys
    → zip2 word_difference (zip2 word_difference xs ys) (all_above n ys xs 4294967295 0)
    ≡ zip2 (λ x y. (x + (goldilocks_modulus - y)) % goldilocks_modulus) xs ys
goldilocks_differences [] ys n e a b = refl
goldilocks_differences (x ∷ xs) ys zero e a b = absurd (omega (arith, e))
goldilocks_differences (x ∷ xs) [] (suc n) e a b = refl
goldilocks_differences (x ∷ xs) (y ∷ ys) (suc n) e a b = ap₂ ◌∷◌ (lane_difference x y a.0 b.0) (goldilocks_differences xs ys n (omega (arith, e)) a.1 b.1)

-- ---- a product of two words, by halves of 32 bits
abbrev word_product : ℕ → ℕ → ℕ
word_product x y = (x * y) % 18446744073709551616

abbrev half_right : ℕ → ℕ → ℕ
half_right x s = x / 2 ^ s

abbrev half_left : ℕ → ℕ → ℕ
half_left x s = (x * 2 ^ s) % 18446744073709551616

low_half : (x : ℕ) → bit_and x 4294967295 ≡ x % 4294967296
low_half x = and_mask x 32

abbrev first_part : ℕ → ℕ → ℕ
first_part x t = word_sum (word_product (half_right x 32) (bit_and t 4294967295)) (half_right (word_product (bit_and x 4294967295) (bit_and t 4294967295)) 32)

abbrev second_part : ℕ → ℕ → ℕ
second_part x t = word_sum (word_product (bit_and x 4294967295) (half_right t 32)) (bit_and (first_part x t) 4294967295)

abbrev low_word : ℕ → ℕ → ℕ
low_word x t = word_sum (bit_and (word_product (bit_and x 4294967295) (bit_and t 4294967295)) 4294967295) (half_left (second_part x t) 32)

abbrev high_word : ℕ → ℕ → ℕ
high_word x t = word_sum (word_sum (word_product (half_right x 32) (half_right t 32)) (half_right (first_part x t) 32)) (half_right (second_part x t) 32)

-- halves do not wrap
half_product : (x y : ℕ) → x < 4294967296 → y < 4294967296 → (word_product x y ≡ x * y) × (x * y ≤ 18446744065119617025)
half_product x y a b =
    let x_most : x ≤ 4294967295 = omega (arith, a) in
    let y_most : y ≤ 4294967295 = omega (arith, b) in
    let most : x * y ≤ 4294967295 * 4294967295 = mul-le-mul x_most y_most in
    (mod-eq_of_lt (omega (arith, most)), omega (arith, most))

-- the parts of a product, from its four products of halves
parts : (ll lh hl hh f s l h : ℕ) → ll ≤ 18446744065119617025 → lh ≤ 18446744065119617025 → hl ≤ 18446744065119617025 → hh ≤ 18446744065119617025
    → f ≡ word_sum hl (ll / 4294967296) → s ≡ word_sum lh (f % 4294967296)
    → l ≡ word_sum (ll % 4294967296) ((s * 4294967296) % 18446744073709551616) → h ≡ word_sum (word_sum hh (f / 4294967296)) (s / 4294967296)
    → ll + (lh + hl) * 4294967296 + hh * 18446744073709551616 < 340282366920938463463374607431768211456
    → (l + h * 18446744073709551616 ≡ ll + (lh + hl) * 4294967296 + hh * 18446744073709551616) × (l < 18446744073709551616)
parts ll lh hl hh f s l h a b c d f_is s_is l_is h_is all =
    let first : f ≡ hl + ll / 4294967296 = omega (arith, a, c, f_is) in
    let second : s ≡ lh + f % 4294967296 = omega (arith, b, s_is) in
    let shifted : (s * 4294967296) % 18446744073709551616 ≡ s % 4294967296 * 4294967296 = omega arith in
    let low : l ≡ ll % 4294967296 + s % 4294967296 * 4294967296 = omega (arith, l_is, shifted) in
    let first_small : f / 4294967296 ≤ 4294967295 = omega (arith, first, a, c) in
    let second_small : s / 4294967296 ≤ 4294967295 = omega (arith, second, b) in
    let high : h ≡ hh + f / 4294967296 + s / 4294967296 = omega (arith, h_is, first_small, second_small, d) in
    (omega (arith, first, second, low, high), omega (arith, low))

-- The two words that a lane's operations make of x and t are those of the product x * t: each of the four products of
-- halves fits a word, they add up to x * t by their places, and `parts` gives the words with the carries between them.
product_of_words : (x t : ℕ) → x < 18446744073709551616 → t < 18446744073709551616
    → (low_word x t + high_word x t * 18446744073709551616 ≡ x * t) × (low_word x t < 18446744073709551616)
product_of_words x t a b =
    let x0 : ℕ = x % 4294967296 in
    let x1 : ℕ = x / 4294967296 in
    let t0 : ℕ = t % 4294967296 in
    let t1 : ℕ = t / 4294967296 in
    let x0_below : x0 < 4294967296 = omega arith in
    let x1_below : x1 < 4294967296 = omega (arith, a) in
    let t0_below : t0 < 4294967296 = omega arith in
    let t1_below : t1 < 4294967296 = omega (arith, b) in
    let ll = half_product x0 t0 x0_below t0_below in
    let lh = half_product x0 t1 x0_below t1_below in
    let hl = half_product x1 t0 x1_below t0_below in
    let hh = half_product x1 t1 x1_below t1_below in
    let x_most : x ≤ 18446744073709551615 = omega (arith, a) in
    let t_most : t ≤ 18446744073709551615 = omega (arith, b) in
    let most : x * t ≤ 18446744073709551615 * 18446744073709551615 = mul-le-mul x_most t_most in
    let x_parts : x0 + x1 * 4294967296 ≡ x = mod-add-div' x 4294967296 in
    let t_parts : t0 + t1 * 4294967296 ≡ t = mod-add-div' t 4294967296 in
    let spread : x0 * t0 + (x0 * t1 + x1 * t0) * 4294967296 + x1 * t1 * 18446744073709551616 ≡ (x0 + x1 * 4294967296) * (t0 + t1 * 4294967296) = omega arith in
    let whole : x0 * t0 + (x0 * t1 + x1 * t0) * 4294967296 + x1 * t1 * 18446744073709551616 ≡ x * t = spread ∙ ap₂ ◌*◌ x_parts t_parts in
    let ll_is : word_product (bit_and x 4294967295) (bit_and t 4294967295) ≡ x0 * t0 = ap₂ word_product (low_half x) (low_half t) ∙ ll.0 in
    let lh_is : word_product (bit_and x 4294967295) t1 ≡ x0 * t1 = ap (λ k. word_product k t1) (low_half x) ∙ lh.0 in
    let hl_is : word_product x1 (bit_and t 4294967295) ≡ x1 * t0 = ap (word_product x1) (low_half t) ∙ hl.0 in
    let made = parts (x0 * t0) (x0 * t1) (x1 * t0) (x1 * t1) (first_part x t) (second_part x t) (low_word x t) (high_word x t) ll.1 lh.1 hl.1 hh.1
    (ap₂ (λ p q. word_sum p (q / 4294967296)) hl_is ll_is)
    (ap₂ word_sum lh_is (low_half (first_part x t)))
    (ap (λ q. word_sum q (half_left (second_part x t) 32))
    (low_half (word_product (bit_and x 4294967295) (bit_and t 4294967295)) ∙ ap (λ q. q % 4294967296) ll_is))
    (ap (λ q. word_sum (word_sum q (half_right (first_part x t) 32)) (half_right (second_part x t) 32)) hh.0)
    (omega (arith, whole, most)) in
    (made.0 ∙ whole, made.1)

low_of_product : (x t : ℕ) → x < 18446744073709551616 → t < 18446744073709551616 → low_word x t ≡ (x * t) % 18446744073709551616
low_of_product x t a b = let p = product_of_words x t a b in omega (arith, p.0, p.1)

high_of_product : (x t : ℕ) → x < 18446744073709551616 → t < 18446744073709551616 → high_word x t ≡ x * t / 18446744073709551616
high_of_product x t a b = let p = product_of_words x t a b in omega (arith, p.0, p.1)

-- ---- the remainder of two words, whose highest bits are turned on the way
abbrev turned : ℕ → ℕ
turned x = word_sum x 9223372036854775808

-- what is selected where one so turned is greater
abbrev where_greater : ℕ → ℕ → ℕ → ℕ → ℕ
where_greater x y a b = cond (top 63 (word_mask (turned y) (turned x))) a b

-- what is added to the lower word for the upper one, and the highest bit turned
abbrev multiple : ℕ → ℕ
multiple h = word_difference (turned (word_sum (half_left h 32) (word_difference 4294967295 (bit_and h 4294967295)))) (half_right h 32)

-- the sum with it, in which the word may have wrapped, and its remainder
abbrev lessened : ℕ → ℕ → ℕ
lessened l e = word_difference (word_sum l e) (where_greater e (word_sum l e) 0 4294967295)

abbrev corrected : ℕ → ℕ
corrected c = turned (word_difference c (cond (top 63 (word_mask 18446744069414584320 (turned c))) 4294967295 0))

multiple_is : (h : ℕ) → h < 18446744073709551616
    → (turned (multiple h) + h / 4294967296 ≡ h % 4294967296 * 4294967295 + 4294967295) × (multiple h < 18446744073709551616)
multiple_is h b =
    let h0 : ℕ = h % 4294967296 in
    let u : ℕ = h / 4294967296 in
    let u_below : u < 4294967296 = omega (arith, b) in
    let shifted : (h * 4294967296) % 18446744073709551616 ≡ h0 * 4294967296 = omega arith in
    let rest : word_difference 4294967295 h0 ≡ 4294967295 - h0 = omega arith in
    let whole : word_sum (half_left h 32) (word_difference 4294967295 h0) ≡ h0 * 4294967295 + 4294967295 = omega (arith, shifted, rest) in
    let is : multiple h ≡ word_difference (turned (h0 * 4294967295 + 4294967295)) u
    =
    ap (λ k. word_difference (turned (word_sum (half_left h 32) (word_difference 4294967295 k))) u) (low_half h)
    ∙ ap (λ k. word_difference (turned k) u) whole in
    (omega (arith, is, u_below), omega (arith, is))

abbrev reduced_word : ℕ → ℕ → ℕ
reduced_word l h = corrected (lessened l (multiple h))

-- the modulus is added or taken away so often that the word is below it
quotients : (l h : ℕ) → l < 18446744073709551616 → h < 18446744073709551616
    → (f : ℕ)
    × ((g : ℕ)
    × ((l + h * 18446744073709551616 + g * goldilocks_modulus ≡ reduced_word l h + f * goldilocks_modulus)
    × (reduced_word l h < goldilocks_modulus)))
quotients l h a b =
    let h0 : ℕ = h % 4294967296 in
    let u : ℕ = h / 4294967296 in
    let u_below : u < 4294967296 = omega (arith, b) in
    let m : ℕ = multiple h in
    let m_is = multiple_is h b in
    let s : ℕ = word_sum l m in
    let s_is : turned s ≡ word_sum l (turned m) = omega arith in
    ⊎_elim
    (λ wraps.
    let less : lessened l m ≡ s = ap (word_difference s) (if_less (turned s) (turned m) 0 4294967295 wraps) ∙ omega arith in
    let most : turned s ≤ 18446744069414584320 = omega (arith, s_is, wraps, m_is.0, a) in
    let is : reduced_word l h ≡ turned (word_difference s 0) =
    ap corrected less
    ∙ ap (λ k. turned (word_difference s k)) (if_not_less 18446744069414584320 (turned s) 4294967295 0 most) in
    (1 + h0 + u * 4294967297, (0, (omega (arith, is, s_is, wraps, m_is.0, a), omega (arith, is, most)))))
    (λ fits.
    let c : ℕ = word_difference s 4294967295 in
    let less : lessened l m ≡ c = ap (word_difference s) (if_not_less (turned s) (turned m) 0 4294967295 fits) in
    let c_is : turned c ≡ word_difference (turned s) 4294967295 = omega arith in
    ⊎_elim
    (λ negative.
    let is : reduced_word l h ≡ turned (word_difference c 4294967295) =
    ap corrected less
    ∙ ap (λ k. turned (word_difference c k)) (if_less 18446744069414584320 (turned c) 4294967295 0 negative) in (
      h0 + u * 4294967297,
      (
        1,
        (
          omega (arith, is, c_is, s_is, fits, negative, m_is.0, a, u_below),
          omega
              (arith, is, c_is, s_is, fits, negative, m_is.0, a, u_below),
        ),
      ),
    ))
    (λ most.
    let is : reduced_word l h ≡ turned (word_difference c 0) =
    ap corrected less
    ∙ ap (λ k. turned (word_difference c k)) (if_not_less 18446744069414584320 (turned c) 4294967295 0 most) in
    (h0 + u * 4294967297, (0, (omega (arith, is, c_is, s_is, fits, most, m_is.0, a, u_below), omega (arith, is, most)))))
    (cases_lt 18446744069414584320 (turned c)))
    (cases_lt (turned s) (turned m))

reduced_word_is : (l h : ℕ) → l < 18446744073709551616 → h < 18446744073709551616
    → reduced_word l h ≡ (l + h * 18446744073709551616) % goldilocks_modulus
reduced_word_is l h a b =
    let p : ℕ = goldilocks_modulus in
    let (f, (g, (whole, below))) = quotients l h a b in
    sym (mod-eq_of_lt below)
    ∙ sym (add-mul-mod_self_right (reduced_word l h) f p)
    ∙ ap (λ k. k % p) (sym whole)
    ∙ add-mul-mod_self_right (l + h * 18446744073709551616) g p

-- ---- all lanes
abbrev masked : ℕ → List ℕ → List ℕ
masked n xs = zip2 bit_and xs (replicate n 4294967295)

abbrev upper : ℕ → List ℕ → List ℕ
upper n xs = zip2 half_right xs (replicate n 32)

abbrev firsts : ℕ → List ℕ → List ℕ → List ℕ
firsts n xs ts = zip2 word_sum (zip2 word_product (upper n xs) (masked n ts)) (upper n (zip2 word_product (masked n xs) (masked n ts)))

abbrev seconds : ℕ → List ℕ → List ℕ → List ℕ
seconds n xs ts = zip2 word_sum (zip2 word_product (masked n xs) (upper n ts)) (masked n (firsts n xs ts))

pub low_words : (xs ts : List ℕ) (n : ℕ) → length xs ≡ n → Each1 (Fits w64) xs → Each1 (Fits w64) ts
    → zip2 word_sum (masked n (zip2 word_product (masked n xs) (masked n ts))) (zip2 half_left (seconds n xs ts) (replicate n 32))
    ≡ zip2 (λ x t. (x * t) % 18446744073709551616) xs ts
low_words [] ts n e a b = refl
low_words (x ∷ xs) ts zero e a b = absurd (omega (arith, e))
low_words (x ∷ xs) [] (suc n) e a b = refl
low_words (x ∷ xs) (t ∷ ts) (suc n) e a b = ap₂ ◌∷◌ (low_of_product x t a.0.fits b.0.fits) (low_words xs ts n (omega (arith, e)) a.1 b.1)

pub high_words : (xs ts : List ℕ) (n : ℕ) → length xs ≡ n → Each1 (Fits w64) xs → Each1 (Fits w64) ts
    → zip2 word_sum (zip2 word_sum (zip2 word_product (upper n xs) (upper n ts)) (upper n (firsts n xs ts))) (upper n (seconds n xs ts))
    ≡ zip2 (λ x t. x * t / 18446744073709551616) xs ts
high_words [] ts n e a b = refl
high_words (x ∷ xs) ts zero e a b = absurd (omega (arith, e))
high_words (x ∷ xs) [] (suc n) e a b = refl
high_words (x ∷ xs) (t ∷ ts) (suc n) e a b = ap₂ ◌∷◌ (high_of_product x t a.0.fits b.0.fits) (high_words xs ts n (omega (arith, e)) a.1 b.1)

abbrev all_turned : ℕ → List ℕ → List ℕ
all_turned n xs = zip2 word_sum xs (replicate n 9223372036854775808)

-- a where a lane of xs is above that of ys, both with their highest bits turned, and b elsewhere
abbrev all_where : ℕ → List ℕ → List ℕ → ℕ → ℕ → List ℕ
all_where n xs ys a b = all_above n (all_turned n xs) (all_turned n ys) a b

abbrev multiples : ℕ → List ℕ → List ℕ
multiples n hs =
    let whole = zip2 word_sum (zip2 half_left hs (replicate n 32)) (zip2 word_difference (replicate n 4294967295) (masked n hs)) in
    zip2 word_difference (all_turned n whole) (upper n hs)

abbrev all_lessened : ℕ → List ℕ → List ℕ → List ℕ
all_lessened n ls hs =
    let sums = zip2 word_sum ls (multiples n hs) in
    zip2 word_difference sums (all_where n (multiples n hs) sums 0 4294967295)

pub reduced_words : (ls hs : List ℕ) (n : ℕ) → length ls ≡ n → Each1 (Fits w64) ls → Each1 (Fits w64) hs
    → all_turned n (zip2 word_difference (all_lessened n ls hs)
    (all_above n (all_turned n (all_lessened n ls hs)) (replicate n 18446744069414584320) 4294967295 0))
    ≡ zip2 (λ l h. (l + h * 18446744073709551616) % goldilocks_modulus) ls hs
reduced_words [] hs n e a b = refl
reduced_words (l ∷ ls) hs zero e a b = absurd (omega (arith, e))
reduced_words (l ∷ ls) [] (suc n) e a b = refl
reduced_words (l ∷ ls) (h ∷ hs) (suc n) e a b = ap₂ ◌∷◌ (reduced_word_is l h a.0.fits b.0.fits) (reduced_words ls hs n (omega (arith, e)) a.1 b.1)

-- the two words of a product, and its remainder
pub words_together : (xs ts : List ℕ)
    → zip2 (λ l h. (l + h * 18446744073709551616) % goldilocks_modulus)
    (zip2 (λ x t. (x * t) % 18446744073709551616) xs ts) (zip2 (λ x t. x * t / 18446744073709551616) xs ts)
    ≡ zip2 (λ x t. (x * t) % goldilocks_modulus) xs ts
words_together [] ts = refl
words_together (x ∷ xs) [] = refl
words_together (x ∷ xs) (t ∷ ts) = ap₂ ◌∷◌ (ap (λ k. k % goldilocks_modulus) (mod-add-div' (x * t) 18446744073709551616)) (words_together xs ts)
