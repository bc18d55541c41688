-- Arithmetic modulo m on the lanes of a vector: one correction by the least of two, and a product by an estimated quotient.
use Rattle.p3_field.proofs.Names.{◌≡◌, ℕ, zero, suc, ◌+◌, ◌-◌, ◌*◌, ◌/◌, ◌%◌, ◌<◌, ◌≤◌, ◌^◌, Bool, true, false, cond, List, [], ◌∷◌, length, map, replicate}
use Rattle.p3_field.proofs.Names.{refl, sym, ap, ap₂, ◌∙◌, arith, ⊎_elim, lit<, ltb, mod-eq_of_lt, mod-lt, add-mod_right, add-mul-mod_self_right, mod-add-div'}
use Rattle.p3_field.proofs.Names.{mul-le-mul, mul-le-mul_right, div-lt_iff_lt-mul, mul-mod_first, cases_lt, lt-ltb, le-ltb, cond-true, cond-false, Each1, zip2}
use Rattle.p3_field.proofs.Names.{sel_l, top, w32, w64, Fits, AreBelow, Fits-widen, subst}
use Rattle.p3_field.proofs.ResidueLanes.{each_below, pairs_below}

-- what a lane's operations give, modulo 2^32
abbrev wrapped_sum : ℕ → ℕ → ℕ
wrapped_sum x y = (x + y) % 4294967296

abbrev wrapped_difference : ℕ → ℕ → ℕ
wrapped_difference x y = (x + (4294967296 - y)) % 4294967296

abbrev wrapped_product : ℕ → ℕ → ℕ
wrapped_product x y = (x * y) % 4294967296

-- what a comparison leaves in a lane
abbrev less_mask : ℕ → ℕ → ℕ
less_mask x y = cond (ltb x y) 4294967295 0

chosen : (b : Bool) (x y : ℕ) → cond (top 31 (cond b 4294967295 0)) x y ≡ cond b x y
chosen true x y = refl
chosen false x y = refl

lesser_first : (x y : ℕ) → x < y → cond (top 31 (less_mask x y)) x y ≡ x
lesser_first x y l = chosen (ltb x y) x y ∙ cond-true (ltb x y) x y (lt-ltb x y l)

lesser_second : (x y : ℕ) → y ≤ x → cond (top 31 (less_mask x y)) x y ≡ y
lesser_second x y l = chosen (ltb x y) x y ∙ cond-false (ltb x y) x y (le-ltb x y l)

-- the lesser of each two lanes
abbrev least_of : List ℕ → List ℕ → List ℕ
least_of xs ys = sel_l (map (top 31) (zip2 less_mask xs ys)) xs ys

module _ (m : ℕ) (above : 1 < m) (small : m < 2147483648) where
  -- ---- one lane
  lane_remainder : (x : ℕ) → x < m + m → cond (top 31 (less_mask x (wrapped_difference x m))) x (wrapped_difference x m) ≡ x % m
  lane_remainder x below = ⊎_elim
      (λ less. lesser_first x (wrapped_difference x m) (omega (arith, less, small)) ∙ sym (mod-eq_of_lt less))
      (λ reaches.
      let rest : wrapped_difference x m ≡ x - m = omega (arith, reaches, below, small) in
      let whole : x ≡ x - m + m = omega (arith, reaches) in
      lesser_second x (wrapped_difference x m) (omega (arith, rest)) ∙ rest
      ∙ sym (ap (λ n. n % m) whole ∙ add-mod_right (x - m) m ∙ mod-eq_of_lt (omega (arith, reaches, below))))
      (cases_lt x m)

  lane_difference : (x y : ℕ) → x < m → y < m
      → cond (top 31 (less_mask (wrapped_difference x y) (wrapped_sum (wrapped_difference x y) m)))
      (wrapped_difference x y) (wrapped_sum (wrapped_difference x y) m)
      ≡ (x + (m - y)) % m
  lane_difference x y a b = ⊎_elim
      (λ less.
      let rest : wrapped_difference x y ≡ x + 4294967296 - y = omega (arith, less, a, b, small) in
      let sum : wrapped_sum (wrapped_difference x y) m ≡ x + (m - y) = omega (arith, rest, less, a, b, small) in
      lesser_second (wrapped_difference x y) (wrapped_sum (wrapped_difference x y) m) (omega (arith, sum, rest, less, a, b, small))
      ∙ sum ∙ sym (mod-eq_of_lt (omega (arith, less, b))))
      (λ reaches.
      let rest : wrapped_difference x y ≡ x - y = omega (arith, reaches, a, b, small) in
      let sum : wrapped_sum (wrapped_difference x y) m ≡ x - y + m = omega (arith, rest, reaches, a, b, small) in
      let whole : x + (m - y) ≡ x - y + m = omega (arith, reaches, b) in
      lesser_first (wrapped_difference x y) (wrapped_sum (wrapped_difference x y) m) (omega (arith, sum, rest, above))
      ∙ rest ∙ sym (ap (λ n. n % m) whole ∙ add-mod_right (x - y) m ∙ mod-eq_of_lt (omega (arith, a))))
      (cases_lt x y)

  -- ---- all lanes
  pub remainders_of_lanes : (xs : List ℕ) (n : ℕ) → length xs ≡ n → AreBelow (m + m) xs
      → least_of xs (zip2 wrapped_difference xs (replicate n m)) ≡ map (λ x. x % m) xs
  remainders_of_lanes [] n e below = refl
  remainders_of_lanes (x ∷ xs) zero e below = absurd (omega (arith, e))
  remainders_of_lanes (x ∷ xs) (suc n) e below = ap₂ ◌∷◌ (lane_remainder x below.0) (remainders_of_lanes xs n (omega (arith, e)) below.1)

  pub differences_of_lanes : (xs ys : List ℕ) (n : ℕ) → length xs ≡ n → AreBelow m xs → AreBelow m ys
      → least_of (zip2 wrapped_difference xs ys) (zip2 wrapped_sum (zip2 wrapped_difference xs ys) (replicate n m))
      ≡ zip2 (λ x y. (x + (m - y)) % m) xs ys
  differences_of_lanes [] ys n e a b = refl
  differences_of_lanes (x ∷ xs) [] n e a b = refl
  differences_of_lanes (x ∷ xs) (y ∷ ys) zero e a b = absurd (omega (arith, e))
  differences_of_lanes (x ∷ xs) (y ∷ ys) (suc n) e a b = ap₂ ◌∷◌ (lane_difference x y a.0 b.0) (differences_of_lanes xs ys n (omega (arith, e)) a.1 b.1)

  -- remainders are below the modulus
  pub remainders_below : (xs : List ℕ) (n : ℕ) → length xs ≡ n → AreBelow (m + m) xs → AreBelow m (least_of xs (zip2 wrapped_difference xs (replicate n m)))
  remainders_below xs n e below =
      subst (AreBelow m) (sym (remainders_of_lanes xs n e below)) (each_below (λ x. x % m) (λ x. mod-lt x (omega (arith, above))) xs)

  pub differences_below : (xs ys : List ℕ) (n : ℕ) → length xs ≡ n → AreBelow m xs → AreBelow m ys
      → AreBelow m (least_of (zip2 wrapped_difference xs ys) (zip2 wrapped_sum (zip2 wrapped_difference xs ys) (replicate n m)))
  differences_below xs ys n e a b =
      subst (AreBelow m) (sym (differences_of_lanes xs ys n e a b))
      (pairs_below (λ x y. (x + (m - y)) % m) (λ x y. mod-lt (x + (m - y)) (omega (arith, above))) xs ys)

  -- with the modulus added, a difference does not wrap
  pub loose_differences_of_lanes : (xs ys : List ℕ) (n : ℕ) → length xs ≡ n → AreBelow m xs → AreBelow m ys
      → zip2 wrapped_sum (zip2 wrapped_difference xs ys) (replicate n m) ≡ zip2 (λ x y. x + (m - y)) xs ys
  loose_differences_of_lanes [] ys n e a b = refl
  loose_differences_of_lanes (x ∷ xs) [] n e a b = refl
  loose_differences_of_lanes (x ∷ xs) (y ∷ ys) zero e a b = absurd (omega (arith, e))
  loose_differences_of_lanes (x ∷ xs) (y ∷ ys) (suc n) e a b =
      let sum : wrapped_sum (wrapped_difference x y) m ≡ x + (m - y) = omega (arith, a.0, b.0, small) in
      ap₂ ◌∷◌ sum (loose_differences_of_lanes xs ys n (omega (arith, e)) a.1 b.1)

  -- a sum does not wrap, and wants one correction
  pub sums_below : (xs ys : List ℕ) → AreBelow m xs → AreBelow m ys → AreBelow (m + m) (zip2 wrapped_sum xs ys)
  sums_below [] ys a b = tt
  sums_below (x ∷ xs) [] a b = tt
  sums_below (x ∷ xs) (y ∷ ys) a b = (omega (arith, a.0, b.0, small), sums_below xs ys a.1 b.1)

  pub sums_of_lanes : (xs ys : List ℕ) → AreBelow m xs → AreBelow m ys → map (λ n. n % m) (zip2 wrapped_sum xs ys) ≡ zip2 (λ x y. (x + y) % m) xs ys
  sums_of_lanes [] ys a b = refl
  sums_of_lanes (x ∷ xs) [] a b = refl
  sums_of_lanes (x ∷ xs) (y ∷ ys) a b =
      let sum : wrapped_sum x y ≡ x + y = omega (arith, a.0, b.0, small) in
      ap₂ ◌∷◌ (ap (λ n. n % m) sum) (sums_of_lanes xs ys a.1 b.1)

-- ---- products with one factor t: q is the quotient of t, and e the quotient of x times t that q estimates
abbrev quotient_of : ℕ → ℕ → ℕ
quotient_of m t = t * 4294967296 / m

abbrev estimate : ℕ → ℕ → ℕ
estimate x q = x * q / 4294967296

abbrev rest_of_estimate : ℕ → ℕ → ℕ → ℕ → ℕ
rest_of_estimate m t q x = wrapped_difference (wrapped_product x t) (wrapped_product (estimate x q) m)

module _ (m : ℕ) (above : 1 < m) (small : m < 2147483648) (t : ℕ) (factor : t < m) where
  -- words of 64 and of 32 bits hold it
  pub quotient_of_words : (t * 4294967296) % 18446744073709551616 / m % 4294967296 ≡ quotient_of m t
  quotient_of_words =
      let word : (t * 4294967296) % 18446744073709551616 ≡ t * 4294967296 = omega (arith, factor, small) in
      ap (λ n. n / m % 4294967296) word ∙ mod-eq_of_lt ((div-lt_iff_lt-mul {k = m} (omega (arith, above))).1 (omega (arith, factor)))

  -- the estimate is at most one less than the quotient, for any x of a lane
  estimate_below : (x : ℕ) → x < 4294967296 → (estimate x (quotient_of m t) * m ≤ x * t) × (x * t < estimate x (quotient_of m t) * m + (m + m))
  estimate_below x below =
      let q : ℕ = quotient_of m t in
      let e : ℕ = estimate x q in
      let s : ℕ = (t * 4294967296) % m in
      let u : ℕ = (x * q) % 4294967296 in
      let factor_parts : s + q * m ≡ t * 4294967296 = mod-add-div' (t * 4294967296) m in
      let x_word : x ≤ 4294967295 = omega (arith, below) in
      let parts : u + e * 4294967296 ≡ x * q = mod-add-div' (x * q) 4294967296 in
      let u_word : u ≤ 4294967295 = omega arith in
      let s_below : s < m = mod-lt (t * 4294967296) (omega (arith, above)) in
      let s_most : s ≤ m = omega (arith, s_below) in
      let first : u * m ≤ 4294967295 * m = mul-le-mul_right m u_word in
      let second : x * s ≤ 4294967295 * m = mul-le-mul x_word s_most in
      let spread : 4294967296 * (x * t) ≡ 4294967296 * (e * m) + (u * m + x * s) =
      let a : 4294967296 * (x * t) ≡ x * (s + q * m) = sym (ap (λ k. x * k) factor_parts ∙ omega arith) in
      let b : x * (s + q * m) ≡ x * q * m + x * s = omega arith in
      let d : (u + e * 4294967296) * m + x * s ≡ 4294967296 * (e * m) + (u * m + x * s) = omega arith in
      a ∙ b ∙ ap (λ k. k * m + x * s) (sym parts) ∙ d in
      (omega (arith, spread), omega (arith, spread, first, second, above))

  lane_rest : (x : ℕ) → x < 4294967296 → rest_of_estimate m t (quotient_of m t) x + estimate x (quotient_of m t) * m ≡ x * t
  lane_rest x below =
      let near = estimate_below x below in
      omega (arith, near.0, near.1, small)

  lane_rest_below : (x : ℕ) → x < 4294967296 → rest_of_estimate m t (quotient_of m t) x < m + m
  lane_rest_below x below =
      let near = estimate_below x below in
      omega (arith, near.0, near.1, lane_rest x below)

  lane_multiple : (x : ℕ) → x < 4294967296 → rest_of_estimate m t (quotient_of m t) x % m ≡ (x * t) % m
  lane_multiple x below =
      sym (add-mul-mod_self_right (rest_of_estimate m t (quotient_of m t) x) (estimate x (quotient_of m t)) m)
      ∙ ap (λ n. n % m) (lane_rest x below)

  -- the quotient's estimate in all lanes, and the rest
  abbrev estimates : List ℕ → List ℕ
  estimates xs = map (λ x. x * quotient_of m t / 4294967296) xs

  abbrev rests : ℕ → List ℕ → List ℕ
  rests n xs = zip2 wrapped_difference (zip2 wrapped_product xs (replicate n t)) (zip2 wrapped_product (estimates xs) (replicate n m))

  pub rests_below : (xs : List ℕ) (n : ℕ) → length xs ≡ n → Each1 (Fits w32) xs → AreBelow (m + m) (rests n xs)
  rests_below [] n e fits = tt
  rests_below (x ∷ xs) zero e fits = absurd (omega (arith, e))
  rests_below (x ∷ xs) (suc n) e fits = (lane_rest_below x fits.0.fits, rests_below xs n (omega (arith, e)) fits.1)

  pub multiples_of_lanes : (xs : List ℕ) (n : ℕ) → length xs ≡ n → Each1 (Fits w32) xs → map (λ k. k % m) (rests n xs) ≡ map (λ x. (x * t) % m) xs
  multiples_of_lanes [] n e fits = refl
  multiples_of_lanes (x ∷ xs) zero e fits = absurd (omega (arith, e))
  multiples_of_lanes (x ∷ xs) (suc n) e fits = ap₂ ◌∷◌ (lane_multiple x fits.0.fits) (multiples_of_lanes xs n (omega (arith, e)) fits.1)

-- a difference has the same multiples whether or not its remainder is taken
pub multiples_of_loose : (m t : ℕ) (xs ys : List ℕ)
    → map (λ k. (k * t) % m) (zip2 (λ x y. x + (m - y)) xs ys)
    ≡ map (λ k. (k * t) % m) (zip2 (λ x y. (x + (m - y)) % m) xs ys)
multiples_of_loose m t [] ys = refl
multiples_of_loose m t (x ∷ xs) [] = refl
multiples_of_loose m t (x ∷ xs) (y ∷ ys) = ap₂ ◌∷◌ (sym (mul-mod_first (x + (m - y)) t m)) (multiples_of_loose m t xs ys)

-- ---- products of two lanes: u is the upper digits of a product, and e the quotient that it and the reciprocal of m estimate
abbrev wide_product : ℕ → ℕ → ℕ
wide_product x y = (x * y) % 18446744073709551616

abbrev wide_difference : ℕ → ℕ → ℕ
wide_difference x y = (x + (18446744073709551616 - y)) % 18446744073709551616

abbrev shifted_right : ℕ → ℕ → ℕ
shifted_right x s = x / 2 ^ s

abbrev reciprocal : ℕ → ℕ
reciprocal m = 4611686018427387904 / m % 4294967296

abbrev upper_digits : ℕ → ℕ → ℕ
upper_digits x y = wide_product x y / 1073741824

abbrev estimated : ℕ → ℕ → ℕ → ℕ
estimated m x y = wide_product (upper_digits x y) (reciprocal m) / 4294967296

abbrev rest_of_product : ℕ → ℕ → ℕ → ℕ
rest_of_product m x y = wide_difference (wide_product x y) (wide_product (estimated m x y) m)

module _ (m : ℕ) (above : 1 < m) (small : m < 2147483648) (near : 1073741824 + 4611686018427387904 % m < m) where
  product_is : (x y : ℕ) → x < m → y < m → (wide_product x y ≡ x * y) × (x * y < 4611686018427387904)
  product_is x y a b =
      let x_most : x ≤ 2147483647 = omega (arith, a, small) in
      let y_most : y ≤ 2147483647 = omega (arith, b, small) in
      let product : x * y ≤ 2147483647 * 2147483647 = mul-le-mul x_most y_most in
      (mod-eq_of_lt (omega (arith, product)), omega (arith, product))

  reciprocal_is : reciprocal m ≡ 4611686018427387904 / m
  reciprocal_is = mod-eq_of_lt ((div-lt_iff_lt-mul {k = m} (omega (arith, above))).1 (omega (arith, near)))

  upper_below : (x y : ℕ) → x < m → y < m → upper_digits x y < 4294967296
  upper_below x y a b =
      let p = product_is x y a b in
      (div-lt_iff_lt-mul {k = 1073741824} (omega arith)).1 (omega (arith, p.0, p.1))

  -- the estimate is at most one less than the quotient
  estimated_below : (x y : ℕ) → x < m → y < m → (estimated m x y * m ≤ x * y) × (x * y < estimated m x y * m + (m + m))
  estimated_below x y a b =
      let p : ℕ = x * y in
      let q : ℕ = reciprocal m in
      let u : ℕ = upper_digits x y in
      let e : ℕ = estimated m x y in
      let rho : ℕ = 4611686018427387904 % m in
      let lower : ℕ = p % 1073741824 in
      let w : ℕ = (u * q) % 4294967296 in
      let whole = product_is x y a b in
      let u_word : u ≤ 4294967295 = omega (arith, upper_below x y a b) in
      let q_word : q ≤ 4294967295 = omega (arith, mod-lt (4611686018427387904 / m) {m = 4294967296} (lit< tt)) in
      let product : u * q ≤ 4294967295 * 4294967295 = mul-le-mul u_word q_word in
      let product_word : wide_product u q ≡ u * q = mod-eq_of_lt (omega (arith, product)) in
      let p_parts : lower + u * 1073741824 ≡ p = ap (λ k. lower + k / 1073741824 * 1073741824) whole.0 ∙ mod-add-div' p 1073741824 in
      let m_parts : rho + q * m ≡ 4611686018427387904 = ap (λ k. rho + k * m) reciprocal_is ∙ mod-add-div' 4611686018427387904 m in
      let e_parts : w + e * 4294967296 ≡ u * q = ap (λ k. w + k / 4294967296 * 4294967296) product_word ∙ mod-add-div' (u * q) 4294967296 in
      let w_word : w ≤ 4294967295 = omega (arith, mod-lt (u * q) {m = 4294967296} (lit< tt)) in
      let lower_word : lower ≤ 1073741823 = omega (arith, mod-lt p {m = 1073741824} (lit< tt)) in
      let first : w * m ≤ 4294967295 * m = mul-le-mul_right m w_word in
      let second : u * rho ≤ 4294967295 * rho = mul-le-mul_right rho u_word in
      let spread : 4294967296 * p ≡ 4294967296 * (e * m) + (w * m + (u * rho + 4294967296 * lower)) =
      let a1 : 4294967296 * p ≡ 4294967296 * lower + u * 4611686018427387904 = ap (λ k. 4294967296 * k) (sym p_parts) ∙ omega arith in
      let a2 : 4294967296 * lower + u * 4611686018427387904 ≡ 4294967296 * lower + u * (rho + q * m) = ap (λ k. 4294967296 * lower + u * k) (sym m_parts) in
      let a3 : 4294967296 * lower + u * (rho + q * m) ≡ u * q * m + (u * rho + 4294967296 * lower) = omega arith in
      let a4 : (w + e * 4294967296) * m + (u * rho + 4294967296 * lower) ≡ 4294967296 * (e * m) + (w * m + (u * rho + 4294967296 * lower)) = omega arith in
      a1 ∙ a2 ∙ a3 ∙ ap (λ k. k * m + (u * rho + 4294967296 * lower)) (sym e_parts) ∙ a4 in
      (omega (arith, spread), omega (arith, spread, first, second, lower_word, near, above))

  lane_rest_of_product : (x y : ℕ) → x < m → y < m → rest_of_product m x y + estimated m x y * m ≡ x * y
  lane_rest_of_product x y a b =
      let bound = estimated_below x y a b in
      let whole = product_is x y a b in
      let multiple : wide_product (estimated m x y) m ≡ estimated m x y * m = mod-eq_of_lt (omega (arith, bound.0, whole.1)) in
      let rest : rest_of_product m x y ≡ x * y - estimated m x y * m = ap₂ wide_difference whole.0 multiple ∙ omega (arith, bound.0, whole.1) in
      omega (arith, rest, bound.0)

  lane_rest_of_product_below : (x y : ℕ) → x < m → y < m → rest_of_product m x y < m + m
  lane_rest_of_product_below x y a b =
      let bound = estimated_below x y a b in
      omega (arith, bound.0, bound.1, lane_rest_of_product x y a b)

  lane_product : (x y : ℕ) → x < m → y < m → rest_of_product m x y % m ≡ (x * y) % m
  lane_product x y a b = sym (add-mul-mod_self_right (rest_of_product m x y) (estimated m x y) m) ∙ ap (λ n. n % m) (lane_rest_of_product x y a b)

  -- all lanes
  abbrev wide_products : List ℕ → List ℕ → List ℕ
  wide_products xs ys = zip2 wide_product (map (λ x. x) xs) (map (λ x. x) ys)

  abbrev uppers : ℕ → List ℕ → List ℕ → List ℕ
  uppers n xs ys = zip2 shifted_right (wide_products xs ys) (replicate n 30)

  abbrev all_estimated : ℕ → List ℕ → List ℕ → List ℕ
  all_estimated n xs ys = zip2 shifted_right (zip2 wide_product (map (λ x. x) (map (λ x. x) (uppers n xs ys))) (replicate n (reciprocal m))) (replicate n 32)

  abbrev rests_of_products : ℕ → List ℕ → List ℕ → List ℕ
  rests_of_products n xs ys = zip2 wide_difference (wide_products xs ys) (zip2 wide_product (all_estimated n xs ys) (replicate n m))

  pub uppers_fit : (xs ys : List ℕ) (n : ℕ) → length xs ≡ n → AreBelow m xs → AreBelow m ys → Each1 (Fits w32) (uppers n xs ys)
  uppers_fit [] ys n e a b = tt
  uppers_fit (x ∷ xs) [] n e a b = tt
  uppers_fit (x ∷ xs) (y ∷ ys) zero e a b = absurd (omega (arith, e))
  uppers_fit (x ∷ xs) (y ∷ ys) (suc n) e a b = (record { fits = upper_below x y a.0 b.0 }, uppers_fit xs ys n (omega (arith, e)) a.1 b.1)

  pub rests_of_products_fit : (xs ys : List ℕ) (n : ℕ) → length xs ≡ n → AreBelow m xs → AreBelow m ys → Each1 (Fits w32) (rests_of_products n xs ys)
  rests_of_products_fit [] ys n e a b = tt
  rests_of_products_fit (x ∷ xs) [] n e a b = tt
  rests_of_products_fit (x ∷ xs) (y ∷ ys) zero e a b = absurd (omega (arith, e))
  rests_of_products_fit (x ∷ xs) (y ∷ ys) (suc n) e a b =
      let fits : rest_of_product m x y < 4294967296 = omega (arith, lane_rest_of_product_below x y a.0 b.0, small) in
      (record { fits = fits }, rests_of_products_fit xs ys n (omega (arith, e)) a.1 b.1)

  pub rests_of_products_below : (xs ys : List ℕ) (n : ℕ) → length xs ≡ n → AreBelow m xs → AreBelow m ys
      → AreBelow (m + m) (map (λ x. x) (rests_of_products n xs ys))
  rests_of_products_below [] ys n e a b = tt
  rests_of_products_below (x ∷ xs) [] n e a b = tt
  rests_of_products_below (x ∷ xs) (y ∷ ys) zero e a b = absurd (omega (arith, e))
  rests_of_products_below (x ∷ xs) (y ∷ ys) (suc n) e a b = (lane_rest_of_product_below x y a.0 b.0, rests_of_products_below xs ys n (omega (arith, e)) a.1 b.1)

  pub products_of_lanes : (xs ys : List ℕ) (n : ℕ) → length xs ≡ n → AreBelow m xs → AreBelow m ys
      → map (λ k. k % m) (map (λ x. x) (rests_of_products n xs ys)) ≡ zip2 (λ x y. (x * y) % m) xs ys
  products_of_lanes [] ys n e a b = refl
  products_of_lanes (x ∷ xs) [] n e a b = refl
  products_of_lanes (x ∷ xs) (y ∷ ys) zero e a b = absurd (omega (arith, e))
  products_of_lanes (x ∷ xs) (y ∷ ys) (suc n) e a b = ap₂ ◌∷◌ (lane_product x y a.0 b.0) (products_of_lanes xs ys n (omega (arith, e)) a.1 b.1)

-- what fits 32 bits fits 64
pub widened : (xs : List ℕ) → Each1 (Fits w32) xs → Each1 (Fits w64) xs
widened [] fits = tt
widened (x ∷ xs) fits = (Fits-widen tt fits.0, widened xs fits.1)
