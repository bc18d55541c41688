-- The numbers below an odd modulus, as a commutative ring with one in which halving is exact.
use Rattle.std.proofs.Common.{◌≡◌, ℕ, ◌+◌, ◌-◌, ◌*◌, ◌/◌, ◌%◌, ◌<◌, ap, subst, arith}
use Rattle.std.proofs.Math.Nat.{mod-lt}
use Rattle.std.proofs.Math.Bridge.{le_prop}
use Rattle.p3_field.specs.Ring.{Ring}
use Rattle.p3_field.specs.ResidueLaws.{add_assoc-mod, add_comm-mod, add_zero-mod, add_neg-mod, mul_assoc-mod}
use Rattle.p3_field.specs.ResidueLaws.{mul_comm-mod, mul_one-mod, mul_add-mod, half_twice-mod}

-- a number below m
pub record Residue (m : ℕ) : Type 0 where
  pub number : ℕ
  pub below : number < m

-- a residue is its number
pub residue-eq : {m : ℕ} (x y : Residue m) → x.number ≡ y.number → x ≡ y
residue-eq {m} x y e =
    let residue : (n : ℕ) → n < m → Residue m = λ n h. record { number = n; below = h } in
    subst (λ (n : ℕ). (h : n < m) → x ≡ residue n h) e (λ h. ap (residue x.number) (le_prop x.below h)) y.below

-- the residue of this number
abbrev pub residue_at : (m n : ℕ) → n < m → Residue m
residue_at m n below = record { number = n; below = below }

-- r is the sum of a and b modulo m, and so on
abbrev pub IsSum : ℕ → ℕ → ℕ → ℕ → Type 0
IsSum m a b r = r ≡ (a + b) % m

abbrev pub IsDifference : ℕ → ℕ → ℕ → ℕ → Type 0
IsDifference m a b r = r ≡ (a + (m - b)) % m

abbrev pub IsProduct : ℕ → ℕ → ℕ → ℕ → Type 0
IsProduct m a b r = r ≡ (a * b) % m

abbrev pub IsNegative : ℕ → ℕ → ℕ → Type 0
IsNegative m a r = r ≡ (m - a) % m

module _ (m : ℕ) (above : 1 < m) (odd : m % 2 ≡ 1) where
  -- the remainder of n by m
  abbrev pub residue_of : ℕ → Residue m
  residue_of n = record { number = n % m; below = mod-lt n (omega arith) }

  -- sums, negatives and products are remainders of those of the numbers
  abbrev pub residues : Ring (Residue m)
  residues = record {
    zero = record { number = 0; below = omega arith };
    one = record { number = 1; below = above };
    half = record { number = m / 2 + 1; below = omega (arith, odd) };
    add = λ x y. residue_of (x.number + y.number);
    neg = λ x. residue_of (m - x.number);
    mul = λ x y. residue_of (x.number * y.number);
    add_assoc = λ x y z. residue-eq _ _ (add_assoc-mod m x.number y.number z.number);
    add_comm = λ x y. residue-eq _ _ (add_comm-mod m x.number y.number);
    add_zero = λ x. residue-eq _ _ (add_zero-mod m x.number x.below);
    add_neg = λ x. residue-eq _ _ (add_neg-mod m x.number x.below);
    mul_assoc = λ x y z. residue-eq _ _ (mul_assoc-mod m x.number y.number z.number);
    mul_comm = λ x y. residue-eq _ _ (mul_comm-mod m x.number y.number);
    mul_one = λ x. residue-eq _ _ (mul_one-mod m x.number x.below);
    mul_add = λ x y z. residue-eq _ _ (mul_add-mod m x.number y.number z.number);
    half_twice = residue-eq _ _ (half_twice-mod m above odd);
  }
