-- Proofs, and no definitions: what an implementation of a field by residues owes beside `residue-eq`.
use Rattle.std.proofs.Common.{◌≡◌, ◌↔◌, ℕ, zero, suc, ◌+◌, ◌-◌, ◌%◌, ◌<◌, IsTrue, refl, sym, ap, ◌∙◌, arith, one-add}
use Rattle.std.proofs.lemmas.Bool.{eqb-true, eq-eqb}
use Rattle.std.proofs.Math.Dec.{eqb}
use Rattle.std.proofs.Math.Nat.{add-mod-mod, mod-eq_of_lt}
use Rattle.std.specs.Cmp.{Equal-is, IsTotalOrder, alike_right}
use Rattle.std.specs.Ordering.{is_eq}
use Rattle.std.specs.Prelude.{Bool}
use Rattle.std.specs.declared.cmp.Ordering.{Ordering}
use Rattle.std.specs.declared.cmp.Ordering.TheVariants.{Equal}
use Rattle.p3_field.specs.Residues.{Residue, residue-eq, residues, IsDifference}
use Rattle.p3_field.specs.Ring.{Ring, AreRoots, count}
use Rattle.p3_field.specs.Squarings.{repeated_square}

-- a difference is the sum with a negative
pub difference_law : (m a b r : ℕ) → IsDifference m a b r → r ≡ (a + (m - b) % m) % m
difference_law m a b r is = is ∙ sym (add-mod-mod a (m - b) m)

module _ {m : ℕ} where
  -- equality of the numbers
  pub eq_law : (x y : Residue m) → IsTrue (eqb x.number y.number) ↔ (x ≡ y)
  eq_law x y = (λ t. residue-eq x y (eqb-true x.number y.number t), λ e. eq-eqb x.number y.number (ap (λ (z : Residue m). z.number) e))

module _ (m : ℕ) (above : 1 < m) (odd : m % 2 ≡ 1) where
  -- n ones add up to the remainder of n
  pub count-number : (n : ℕ) → (count (residues m above odd) n).number ≡ n % m
  unfolding count
  count-number zero = sym (mod-eq_of_lt (omega arith))
  count-number (suc n) = ap (λ k. (1 + k) % m) (count-number n) ∙ add-mod-mod 1 n m ∙ ap (λ k. k % m) (one-add n)

  pub count_law : (n : ℕ) → n < m → (count (residues m above odd) n).number ≡ n
  count_law n below = count-number n ∙ mod-eq_of_lt below

module _ {A : Type 0} (r : Ring A) where
  repeated_square-suc : (x : A) (n : ℕ) → repeated_square r x (suc n) ≡ r.mul (repeated_square r x n) (repeated_square r x n)
  repeated_square-suc x zero = refl
  repeated_square-suc x (suc n) = repeated_square-suc (r.mul x x) n

  -- the squarings of a root, from the last one on
  pub roots_law : (root : A) (bits : ℕ) → repeated_square r root (bits - 0) ≡ r.one
      → repeated_square r root (bits - 1) ≡ r.neg r.one → AreRoots r bits (λ i. repeated_square r root (bits - i))
  roots_law root bits one minus_one = record {
    first = one;
    second = minus_one;
    square = λ i below.
        let e : bits - i ≡ suc (bits - suc i) = omega (arith, below) in
        sym (repeated_square-suc root (bits - suc i)) ∙ ap (repeated_square r root) (sym e);
  }

-- the order of a field depends on values alone, by the laws of Ord and by eq_law of Field
module _ {X E : Type 0} (value : X → E) (eq : X → X → Bool) (cmp : X → X → Ordering) (total : IsTotalOrder cmp)
    (matches_eq : (x y : X) → eq x y ≡ is_eq (cmp x y)) (same : (x y : X) → IsTrue (eq x y) ↔ (value x ≡ value y)) where
  tied : (x y : X) → value x ≡ value y → cmp x y ≡ Equal
  tied x y e = (Equal-is (cmp x y)).0 (sym (matches_eq x y) ∙ (same x y).1 e)

  pub order_of_values : (a b c d : X) → value a ≡ value c → value b ≡ value d → cmp a b ≡ cmp c d
  order_of_values a b c d e f = total.congr a c b (tied a c e) ∙ alike_right total b d c (tied b d f)
