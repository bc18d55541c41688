-- The reverse of the next number: the carry runs down from the highest digit, past the digits that are one.
use Rattle.p3_matrix.proofs.Names.{◌≡◌, ℕ, zero, suc, ◌+◌, ◌-◌, ◌*◌, ◌/◌, ◌<◌, ◌≤◌, ◌^◌, ◌⊎◌, inl, inr, refl, ap, ◌∙◌, arith, even_or_odd, rev}
use Rattle.p3_matrix.proofs.BitReversal.{rev-even, rev-odd, rev-lt}

-- what is left of the reverse of i below the carry: the reverse of some j of m digits, and the next of j gives the next of i
pub record IsCarry (bits i rest digit : ℕ) : Type 0 where
  pub m : ℕ
  pub j : ℕ
  pub here : rest ≡ rev m j
  pub place : 2 * digit ≡ 2 ^ m
  pub below : j + 1 < 2 ^ m
  pub next : rev bits (i + 1) ≡ rev m (j + 1)

pub carry_starts : (bits i rest digit : ℕ) → i + 1 < 2 ^ bits → rest ≡ rev bits i → digit ≡ 2 ^ bits / 2 → IsCarry bits i rest digit
carry_starts zero i rest digit l e d = absurd (omega arith)
carry_starts (suc n) i rest digit l e d = record { m = suc n; j = i; here = e; place = omega arith; below = l; next = refl }

-- a digit that is one becomes zero, and the carry goes on
pub carry_goes_on : (bits i rest digit : ℕ) → digit ≤ rest → IsCarry bits i rest digit → IsCarry bits i (rest - digit) (digit / 2)
carry_goes_on bits i rest digit l c = go c.m c.j c.here c.place c.below c.next
  where
    place : (m : ℕ) → 0 < m → 2 * (2 ^ m / 2) ≡ 2 ^ m
    place zero p = absurd (omega arith)
    place (suc n) p = omega arith

    positive : (m a : ℕ) → a + 1 < 2 ^ m → 0 < m
    positive zero a p = absurd (omega arith)
    positive (suc n) a p = omega arith

    odd : (n a : ℕ) → rest ≡ 2 ^ n + rev n a → digit ≡ 2 ^ n → 2 * a + 1 + 1 < 2 ^ suc n
        → rev bits (i + 1) ≡ rev (suc n) (2 * a + 1 + 1) → IsCarry bits i (rest - digit) (digit / 2)
    odd n a e d b x =
        let under : a + 1 < 2 ^ n = omega arith in
        let twice : 2 * a + 1 + 1 ≡ 2 * (a + 1) = omega arith in
        record {
          m = n;
          j = a;
          here = omega arith;
          place = ap (λ y. 2 * (y / 2)) d ∙ place n (positive n a under);
          below = under;
          next = x ∙ ap (rev (suc n)) twice ∙ rev-even n (a + 1);
        }

    parts : (n j : ℕ) → rest ≡ rev (suc n) j → digit ≡ 2 ^ n → j + 1 < 2 ^ suc n
        → rev bits (i + 1) ≡ rev (suc n) (j + 1) → ((a : ℕ) × j ≡ 2 * a) ⊎ ((a : ℕ) × j ≡ 2 * a + 1)
        → IsCarry bits i (rest - digit) (digit / 2)
    parts n j e d b x (inl (a, is)) = let f = e ∙ ap (rev (suc n)) is ∙ rev-even n a in absurd (omega (arith, rev-lt n a))
    parts n j e d b x (inr (a, is)) = odd n a (e ∙ ap (rev (suc n)) is ∙ rev-odd n a) d (omega arith) (x ∙ ap (λ y. rev (suc n) (y + 1)) is)

    go : (m j : ℕ) → rest ≡ rev m j → 2 * digit ≡ 2 ^ m → j + 1 < 2 ^ m → rev bits (i + 1) ≡ rev m (j + 1) → IsCarry bits i (rest - digit) (digit / 2)
    go zero j e p b x = absurd (omega arith)
    go (suc n) j e p b x = parts n j e (omega arith) b x (even_or_odd j)

-- a digit that is zero becomes one, and that is the reverse of the next number
pub carry_ends : (bits i rest digit : ℕ) → (digit ≡ 0) ⊎ (rest < digit) → IsCarry bits i rest digit → rest + digit ≡ rev bits (i + 1)
carry_ends bits i rest digit l c = go c.m c.j c.here c.place c.below c.next
  where
    stop : (n : ℕ) → digit ≡ 2 ^ n → (digit ≡ 0) ⊎ (rest < digit) → rest < digit
    stop n d (inl z) = absurd (omega (arith, rev-lt n 0))
    stop n d (inr l) = l

    parts : (n j : ℕ) → rest ≡ rev (suc n) j → digit ≡ 2 ^ n → rev bits (i + 1) ≡ rev (suc n) (j + 1)
        → ((a : ℕ) × j ≡ 2 * a) ⊎ ((a : ℕ) × j ≡ 2 * a + 1) → rest + digit ≡ rev bits (i + 1)
    parts n j e d x (inl (a, is)) =
        let f = e ∙ ap (rev (suc n)) is ∙ rev-even n a in
        let g = x ∙ ap (λ y. rev (suc n) (y + 1)) is ∙ rev-odd n a in
        omega arith
    parts n j e d x (inr (a, is)) = let f = e ∙ ap (rev (suc n)) is ∙ rev-odd n a in absurd (omega (arith, stop n d l))

    go : (m j : ℕ) → rest ≡ rev m j → 2 * digit ≡ 2 ^ m → j + 1 < 2 ^ m → rev bits (i + 1) ≡ rev m (j + 1) → rest + digit ≡ rev bits (i + 1)
    go zero j e p b x = absurd (omega arith)
    go (suc n) j e p b x = parts n j e (omega arith) x (even_or_odd j)
