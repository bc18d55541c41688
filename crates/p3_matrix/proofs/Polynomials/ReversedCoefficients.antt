-- Coefficients from the values at the powers of the inverse root, in bit reversed order.
use Rattle.p3_matrix.proofs.Names.{◌≡◌, ℕ, ◌<◌, ◌≤◌, ◌^◌, refl, sym, ap, ◌∙◌, arith, Ring, AreRoots, count, power, count-power_of_two, inverse_root, rev}
use Rattle.p3_matrix.proofs.Names.{bit_reversal, AreCoefficients, IsQuotient, Matrix, Same, poly}
use Rattle.p3_matrix.proofs.BitReversal.{rev_of_zero, rev-lt, rev-rev}
use Rattle.p3_matrix.proofs.Polynomials.ByIndex.{poly_same, poly-one, poly-times}
use Rattle.p3_matrix.proofs.Polynomials.Interpolation.{inverse_transform, transform_is}
use Rattle.p3_field.proofs.Rings

-- a single row is where it was
pub reversed_row : {A : Type 0} (k : ℕ) (m : Matrix A) → m.height ≡ 1 → Same m (bit_reversal k m)
reversed_row k m one = record {
  height = refl;
  width = refl;
  alike = λ i j below inside. let first : i ≡ 0 = omega (arith, below, one) in ap (λ r. m.entry r j) (first ∙ sym (ap (rev k) first ∙ rev_of_zero k));
}

module _ {A : Type 0} (R : Ring A) {g : ℕ → A} {bits : ℕ} (G : AreRoots R bits g) where
  -- values at the powers of the inverse root, in reversed order, are the coefficients doubled k times, in that order
  pub coefficients_of_reversed : (m out c : Matrix A) (k : ℕ) → k ≤ bits → m.height ≡ 2 ^ k → out.height ≡ m.height → out.width ≡ m.width
      → ((i j : ℕ) → i < 2 ^ k → j < m.width → out.entry i j ≡ poly R (2 ^ k) (λ q. m.entry q j) (power R (inverse_root R g k) (rev k i)))
      → IsQuotient R (2 ^ k) (bit_reversal k out) c → AreCoefficients R g m k R.one c
  coefficients_of_reversed m out c k within high tall wide entries quotient =
      inverse_transform R G m c k within high (quotient.height ∙ tall) (quotient.width ∙ wide)
      (λ i j below inside.
      let f = λ (q : ℕ). m.entry q j in
      ap (λ x. R.mul x (c.entry i j)) (sym (count-power_of_two R k)) ∙ quotient.entries i j (omega (arith, tall, high)) (omega (arith, wide))
      ∙ entries (rev k i) j (rev-lt k i) inside ∙ ap (λ n. poly R (2 ^ k) f (power R (inverse_root R g k) n)) (rev-rev k i below)
      ∙ sym (transform_is R (inverse_root R g) k f i))

  -- a single row is its own coefficients, whatever power of two its height is said to be
  pub coefficients_of_row : (m c : Matrix A) (k : ℕ) → k ≤ bits → m.height ≡ 1 → m.height ≡ 2 ^ k
      → IsQuotient R (2 ^ k) (bit_reversal k m) c → AreCoefficients R g m k R.one c
  coefficients_of_row m c k within one high quotient =
      coefficients_of_reversed m m c k within high refl refl
      (λ i j below inside.
      let f = λ (q : ℕ). m.entry q j in
      let single : 2 ^ k ≡ 1 = sym high ∙ one in
      let first : i ≡ 0 = omega (arith, single) in
      let x = power R (inverse_root R g k) (rev k i) in
      ap f first ∙ sym (ap (λ n. poly R n f x) single ∙ poly-one R f x))
      quotient

  -- the same where the entries were divided by the height beforehand
  pub coefficients_of_scaled : (m out : Matrix A) (k : ℕ) (scale : A) → k ≤ bits → m.height ≡ 2 ^ k
      → out.height ≡ m.height → out.width ≡ m.width → R.mul (count R (2 ^ k)) scale ≡ R.one
      → ((i j : ℕ) → i < 2 ^ k → j < m.width → out.entry i j ≡ poly R (2 ^ k) (λ q. R.mul (m.entry q j) scale) (power R (inverse_root R g k) (rev k i)))
      → AreCoefficients R g m k R.one (bit_reversal k out)
  coefficients_of_scaled m out k scale within high tall wide undone entries =
      let sums : Matrix A =
      record {
        height = m.height;
        width = m.width;
        entry = λ i j. poly R (2 ^ k) (λ q. m.entry q j) (power R (inverse_root R g k) (rev k i));
      } in
      coefficients_of_reversed m sums (bit_reversal k out) k within high refl refl (λ i j below inside. refl)
      (record {
        height = tall;
        width = wide;
        entries = λ i j below inside.
            let x = power R (inverse_root R g k) (rev k (rev k i)) in
            let f = λ (q : ℕ). m.entry q j in
            let n = count R (2 ^ k) in
            ap (R.mul n) (entries (rev k i) j (rev-lt k i) inside ∙ poly_same R (2 ^ k) _ _ x (λ q p. R.mul_comm (f q) scale) ∙ poly-times R (2 ^ k) scale f x)
            ∙ sym (R.mul_assoc n scale (poly R (2 ^ k) f x)) ∙ ap (λ y. R.mul y (poly R (2 ^ k) f x)) undone ∙ Rings.one-mul R (poly R (2 ^ k) f x);
      })
