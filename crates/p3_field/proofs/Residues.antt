-- Residues modulo an odd number: sums of ones, halves, and lists of generators.
use Rattle.p3_field.proofs.Names.{◌≡◌, ℕ, ◌+◌, ◌/◌, ◌%◌, ◌-◌, ◌<◌, ◌≤◌, sym, ap, ◌∙◌, arith, subst, ◌*◌, List, map, get_or, add-mod_right, mod-eq_of_lt}
use Rattle.p3_field.proofs.Names.{mod_self, mul-le-mul, range_with_len, le_prop, get_or-map-range_with_len, count, Residue, residues, residue-eq, count-number}
use Rattle.p3_field.specs.Fields.{FieldNumbers, field_generator}

module _ (m : ℕ) (above : 1 < m) (odd : m % 2 ≡ 1) where
  pub count-residue : (n : ℕ) (x : Residue m) → x.number ≡ n % m → x ≡ count (residues m above odd) n
  count-residue n x is = residue-eq _ _ (is ∙ sym (count-number m above odd n))

-- the half of an even number is its half, that of an odd one half of its sum with the modulus
pub even_half : (m n r : ℕ) → n < m → n % 2 ≡ 0 → r ≡ n / 2 → (r + r) % m ≡ n
even_half m n r below even is =
    let double : r + r ≡ n = omega (arith, is, even) in
    ap (λ k. k % m) double ∙ mod-eq_of_lt below

pub odd_half : (m n r : ℕ) → m % 2 ≡ 1 → n < m → ¬ (n % 2 ≡ 0) → r ≡ n / 2 + (m / 2 + 1) → (r + r) % m ≡ n
odd_half m n r modulus below odd is =
    let double : r + r ≡ n + m = omega (arith, is, odd, modulus) in
    ap (λ k. k % m) double ∙ add-mod_right n m ∙ mod-eq_of_lt below

-- sums, differences and negatives with one correction in place of a division
pub sum_below : (m a b r : ℕ) → a + b < m → r ≡ a + b → r ≡ (a + b) % m
sum_below m a b r below is = is ∙ sym (mod-eq_of_lt below)

pub sum_reaches : (m a b r : ℕ) → a < m → b < m → m ≤ a + b → r ≡ a + b - m → r ≡ (a + b) % m
sum_reaches m a b r left right reaches is =
    let whole : a + b ≡ r + m = omega (arith, is, reaches) in
    let below : r < m = omega (arith, is, left, right, reaches) in
    sym (ap (λ n. n % m) whole ∙ add-mod_right r m ∙ mod-eq_of_lt below)

pub difference_above : (m a b r : ℕ) → a < m → b < m → b ≤ a → r ≡ a - b → r ≡ (a + (m - b)) % m
difference_above m a b r left right above is =
    let whole : a + (m - b) ≡ r + m = omega (arith, is, above, right) in
    let below : r < m = omega (arith, is, left) in
    sym (ap (λ n. n % m) whole ∙ add-mod_right r m ∙ mod-eq_of_lt below)

pub difference_below : (m a b r : ℕ) → b < m → a < b → r ≡ a + (m - b) → r ≡ (a + (m - b)) % m
difference_below m a b r right not_above is =
    let below : a + (m - b) < m = omega (arith, right, not_above) in
    is ∙ sym (mod-eq_of_lt below)

pub negative_zero : (m a r : ℕ) → a ≡ 0 → r ≡ 0 → r ≡ (m - a) % m
negative_zero m a r none is =
    let whole : m - a ≡ m = omega (arith, none) in
    is ∙ sym (ap (λ n. n % m) whole ∙ mod_self m)

pub negative_other : (m a r : ℕ) → a < m → ¬ (a ≡ 0) → r ≡ m - a → r ≡ (m - a) % m
negative_other m a r below some is =
    let less : m - a < m = omega (arith, below, some) in
    is ∙ sym (mod-eq_of_lt less)

-- what is made of a number below m is decided by the number
pub bounded-eq : {m : ℕ} {B : Type 0} (make : (n : ℕ) → n < m → B) (a b : ℕ) (h : a < m) (k : b < m) → a ≡ b → make a h ≡ make b k
bounded-eq {m} make a b h k e = subst (λ (n : ℕ). (k : n < m) → make a h ≡ make n k) e (λ k. ap (make a) (le_prop h k)) k

-- a product of two numbers below m, which is below 2^31, fits 62 bits: cut to 62 bits it has the same remainder by m
pub product_within_62_bits : (m n a b : ℕ) → m < 2147483648 → a < m → b < m → n ≡ m → ((a * b) % 4611686018427387904) % n ≡ (a * b) % m
product_within_62_bits m n a b small left right same =
    let a_most : a ≤ 2147483647 = omega (arith, left, small) in
    let b_most : b ≤ 2147483647 = omega (arith, right, small) in
    let product : a * b ≤ 2147483647 * 2147483647 = mul-le-mul a_most b_most in
    ap (λ k. (a * b) % 4611686018427387904 % k) same ∙ ap (λ k. k % m) (mod-eq_of_lt (omega (arith, product)))

-- a list of the numbers of all generators has that of each order at its place
pub listed_generator : (f : FieldNumbers) (xs : List ℕ) → map (λ bits. (field_generator f bits).number) (range_with_len 0 (f.two_adicity + 1)) ≡ xs
    → (bits : ℕ) → bits ≤ f.two_adicity → get_or xs bits 0 ≡ (field_generator f bits).number
listed_generator f xs listed bits within =
    sym (ap (λ it. get_or it bits 0) listed) ∙ get_or-map-range_with_len _ 0 (f.two_adicity + 1) bits bits 0 (omega (arith, within)) (omega arith)
