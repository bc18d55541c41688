-- Bit reversal: by the last digit, by the first, in blocks of digits; its bound, and that it undoes itself.
use Rattle.p3_matrix.proofs.Names.{◌≡◌, ℕ, zero, suc, ◌+◌, ◌*◌, ◌<◌, ◌^◌, ◌/◌, ◌%◌, refl, sym, ap, ap₂, ◌∙◌, arith, ◌⊎◌, inl, inr, pow-add, even_or_odd, rev}
use Rattle.p3_matrix.proofs.Names.{bit_reversal, Matrix, Same}

pub rev-zero : (k : ℕ) → rev 0 k ≡ 0
unfolding rev
rev-zero k = refl

pub rev-even : (n k : ℕ) → rev (suc n) (2 * k) ≡ rev n k
unfolding rev
rev-even n k =
    let e : (2 * k) % 2 ≡ 0 = omega arith in
    let d : (2 * k) / 2 ≡ k = omega arith in
    ap₂ (λ a b. a * 2 ^ n + rev n b) e d ∙ omega arith

pub rev-odd : (n k : ℕ) → rev (suc n) (2 * k + 1) ≡ 2 ^ n + rev n k
unfolding rev
rev-odd n k =
    let e : (2 * k + 1) % 2 ≡ 1 = omega arith in
    let d : (2 * k + 1) / 2 ≡ k = omega arith in
    ap₂ (λ a b. a * 2 ^ n + rev n b) e d ∙ omega arith

pub rev-lt : (n k : ℕ) → rev n k < 2 ^ n
unfolding rev
rev-lt zero k = omega arith
rev-lt (suc n) k = below (k % 2) (rev n (k / 2)) (2 ^ n) (2 ^ suc n) (omega arith) (rev-lt n (k / 2)) (omega arith)
  where
    below : (d r p q : ℕ) → d < 2 → r < p → q ≡ 2 * p → d * p + r < q
    below zero r p q a b e = omega arith
    below (suc zero) r p q a b e = omega arith
    below (suc (suc d)) r p q a b e = omega arith

-- a number of l and a number of m digits, one after the other
pub rev-block : (l m b t : ℕ) → t < 2 ^ l → rev (l + m) (b * 2 ^ l + t) ≡ rev l t * 2 ^ m + rev m b
unfolding rev
rev-block zero m b t h = let e : 0 + m ≡ m = omega arith in let d : b * 2 ^ 0 + t ≡ b = omega arith in ap₂ rev e d ∙ omega arith
rev-block (suc l) m b t h =
    let p : 2 ^ suc l ≡ 2 * 2 ^ l = omega arith in
    let x : b * 2 ^ suc l + t ≡ 2 * (b * 2 ^ l) + t = ap (λ (y : ℕ). b * y + t) p ∙ omega arith in
    let c : suc l + m ≡ suc (l + m) = omega arith in
    let e : (2 * (b * 2 ^ l) + t) % 2 ≡ t % 2 = omega arith in
    let d : (2 * (b * 2 ^ l) + t) / 2 ≡ b * 2 ^ l + t / 2 = omega arith in
    let q : (t % 2) * (2 ^ l * 2 ^ m) + (rev l (t / 2) * 2 ^ m + rev m b) ≡ ((t % 2) * 2 ^ l + rev l (t / 2)) * 2 ^ m + rev m b = omega arith in
    ap₂ rev c x ∙ ap₂ (λ u w. u * 2 ^ (l + m) + rev (l + m) w) e d ∙ ap (λ z. (t % 2) * 2 ^ (l + m) + z) (rev-block l m b (t / 2) (omega arith))
    ∙ ap (λ z. (t % 2) * z + (rev l (t / 2) * 2 ^ m + rev m b)) (pow-add 2 l m) ∙ q

-- by the last digit of n + 1
pub rev-low : (n k : ℕ) → k < 2 ^ n → rev (suc n) k ≡ 2 * rev n k
unfolding rev
rev-low n k l =
    let e : suc n ≡ n + 1 = omega arith in
    let d : k ≡ 0 * 2 ^ n + k = omega arith in
    ap₂ rev e d ∙ rev-block n 1 0 k l ∙ omega arith

pub rev-high : (n k : ℕ) → k < 2 ^ n → rev (suc n) (2 ^ n + k) ≡ 2 * rev n k + 1
unfolding rev
rev-high n k l =
    let e : suc n ≡ n + 1 = omega arith in
    let d : 2 ^ n + k ≡ 1 * 2 ^ n + k = omega arith in
    ap₂ rev e d ∙ rev-block n 1 1 k l ∙ omega arith

pub rev-rev : (n k : ℕ) → k < 2 ^ n → rev n (rev n k) ≡ k
rev-rev zero k l = rev-zero (rev 0 k) ∙ omega arith
rev-rev (suc n) k l = go (rev-rev n) (even_or_odd k)
  where
    go : ((j : ℕ) → j < 2 ^ n → rev n (rev n j) ≡ j) → ((j : ℕ) × k ≡ 2 * j) ⊎ ((j : ℕ) × k ≡ 2 * j + 1) → rev (suc n) (rev (suc n) k) ≡ k
    go ih (inl (j, e)) =
        ap (λ x. rev (suc n) (rev (suc n) x)) e ∙ ap (rev (suc n)) (rev-even n j) ∙ rev-low n (rev n j) (rev-lt n j)
        ∙ ap (λ x. 2 * x) (ih j (omega arith)) ∙ sym e
    go ih (inr (j, e)) =
        ap (λ x. rev (suc n) (rev (suc n) x)) e ∙ ap (rev (suc n)) (rev-odd n j) ∙ rev-high n (rev n j) (rev-lt n j)
        ∙ ap (λ x. 2 * x + 1) (ih j (omega arith)) ∙ sym e

pub rev_of_zero : (n : ℕ) → rev n 0 ≡ 0
unfolding rev
rev_of_zero zero = refl
rev_of_zero (suc n) = ap (λ x. 0 * 2 ^ n + x) (rev_of_zero n) ∙ omega arith

-- rows reversed twice stand as they stood
pub reversed_twice : {E : Type 0} (n : ℕ) (m : Matrix E) → m.height ≡ 2 ^ n → Same (bit_reversal n (bit_reversal n m)) m
reversed_twice n m h = record { height = refl; width = refl; alike = λ i j p q. ap (λ k. m.entry k j) (rev-rev n i (omega (arith, h))) }

-- so reversing rows goes over to the other side
pub reversed_back : {E : Type 0} (n : ℕ) (a b : Matrix E) → b.height ≡ 2 ^ n → Same a (bit_reversal n b) → Same b (bit_reversal n a)
reversed_back n a b h s = record {
  height = sym s.height;
  width = sym s.width;
  alike =
      λ i j p q. sym (s.alike (rev n i) j (omega (arith, s.height, h, rev-lt n i)) (omega (arith, s.width))
      ∙ ap (λ k. b.entry k j) (rev-rev n i (omega (arith, h))));
}
