-- Even and odd numbers.
use Rattle.std.proofs.Common.{◌≡◌, ℕ, zero, suc, ◌+◌, ◌*◌, ◌/◌, ◌%◌, refl, arith, ◌⊎◌, inl, inr}

pub even_or_odd : (n : ℕ) → ((k : ℕ) × n ≡ 2 * k) ⊎ ((k : ℕ) × n ≡ 2 * k + 1)
even_or_odd n = go (n % 2) refl
  where
    go : (r : ℕ) → n % 2 ≡ r → ((k : ℕ) × n ≡ 2 * k) ⊎ ((k : ℕ) × n ≡ 2 * k + 1)
    go zero e = inl (n / 2, omega arith)
    go (suc r) e = inr (n / 2, omega arith)
