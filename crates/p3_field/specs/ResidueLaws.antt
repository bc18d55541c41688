-- Proofs, and no definitions: the laws of sums and products modulo a number, from which the ring of residues is made.
use Rattle.std.proofs.Common.{◌≡◌, ℕ, ◌+◌, ◌-◌, ◌*◌, ◌/◌, ◌%◌, ◌<◌, sym, ◌∙◌, ap, arith, add_assoc, add-zero}
use Rattle.std.proofs.Math.Nat.{mod-add-mod, add-mod-mod, add-mod, mod-mod, add_comm, mul_assoc, mul_comm, mul-add}
use Rattle.std.proofs.Math.Nat.{mul-one, mod-eq_of_lt, mod_self, add-mul-mod_self_left}
use Rattle.std.proofs.lemmas.Nat.{mul-mod}

module _ (m : ℕ) where
  mod-mul-mod : (a b : ℕ) → (a % m * b) % m ≡ (a * b) % m
  mod-mul-mod a b = mul-mod (a % m) b m ∙ ap (λ n. n * (b % m) % m) (mod-mod a m) ∙ sym (mul-mod a b m)

  pub mul-mod-mod : (a b : ℕ) → (a * (b % m)) % m ≡ (a * b) % m
  mul-mod-mod a b = ap (λ n. n % m) (mul_comm a (b % m)) ∙ mod-mul-mod b a ∙ ap (λ n. n % m) (mul_comm b a)

  pub add_assoc-mod : (a b c : ℕ) → ((a + b) % m + c) % m ≡ (a + (b + c) % m) % m
  add_assoc-mod a b c = mod-add-mod (a + b) m c ∙ ap (λ n. n % m) (add_assoc a b c) ∙ sym (add-mod-mod a (b + c) m)

  pub add_comm-mod : (a b : ℕ) → (a + b) % m ≡ (b + a) % m
  add_comm-mod a b = ap (λ n. n % m) (add_comm a b)

  pub add_zero-mod : (a : ℕ) → a < m → (a + 0) % m ≡ a
  add_zero-mod a below = ap (λ n. n % m) (add-zero a) ∙ mod-eq_of_lt below

  pub add_neg-mod : (a : ℕ) → a < m → (a + (m - a) % m) % m ≡ 0
  add_neg-mod a below =
      let whole : a + (m - a) ≡ m = omega (arith, below) in
      add-mod-mod a (m - a) m ∙ ap (λ n. n % m) whole ∙ mod_self m

  pub mul_assoc-mod : (a b c : ℕ) → ((a * b) % m * c) % m ≡ (a * ((b * c) % m)) % m
  mul_assoc-mod a b c = mod-mul-mod (a * b) c ∙ ap (λ n. n % m) (mul_assoc a b c) ∙ sym (mul-mod-mod a (b * c))

  pub mul_comm-mod : (a b : ℕ) → (a * b) % m ≡ (b * a) % m
  mul_comm-mod a b = ap (λ n. n % m) (mul_comm a b)

  pub mul_one-mod : (a : ℕ) → a < m → (a * 1) % m ≡ a
  mul_one-mod a below = ap (λ n. n % m) (mul-one a) ∙ mod-eq_of_lt below

  pub mul_add-mod : (a b c : ℕ) → (a * ((b + c) % m)) % m ≡ ((a * b) % m + (a * c) % m) % m
  mul_add-mod a b c = mul-mod-mod a (b + c) ∙ ap (λ n. n % m) (mul-add a b c) ∙ add-mod (a * b) (a * c) m

  pub half_twice-mod : 1 < m → m % 2 ≡ 1 → (m / 2 + 1 + (m / 2 + 1)) % m ≡ 1
  half_twice-mod above odd =
      let sum : m / 2 + 1 + (m / 2 + 1) ≡ 1 + m * 1 = omega (arith, odd) in
      ap (λ n. n % m) sum ∙ add-mul-mod_self_left 1 m 1 ∙ mod-eq_of_lt above
