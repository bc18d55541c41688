-- Matrices whose entries are divided by a number: products with its inverse, and rows in another order.
use Rattle.p3_matrix.proofs.Names.{◌≡◌, ℕ, ◌-◌, ◌%◌, ◌<◌, ◌^◌, refl, sym, ap, ◌∙◌, subst, arith, mod-lt, Ring, count, power, rev, bit_reversal, IsQuotient}
use Rattle.p3_matrix.proofs.Names.{coset_shift, opposite_rows, Matrix, Same, image}
use Rattle.p3_matrix.proofs.BitReversal.{rev-lt}
use Rattle.p3_field.proofs.Rings

-- entries times the inverse of n are divided by n
pub quotient_of_products : {A : Type 0} (r : Ring A) (n : ℕ) (inverse : A) (m out : Matrix A) → r.mul (count r n) inverse ≡ r.one
    → Same out (record { height = m.height; width = m.width; entry = λ i j. r.mul (m.entry i j) inverse }) → IsQuotient r n m out
quotient_of_products r n inverse m out undone same = record {
  height = same.height;
  width = same.width;
  entries = λ i j below inside.
      let x = m.entry i j in
      ap (r.mul (count r n)) (same.alike i j (omega (arith, same.height)) (omega (arith, same.width))) ∙ Rings.mul_left_comm r (count r n) x inverse
      ∙ ap (r.mul x) undone ∙ r.mul_one x;
}

-- the rows of a quotient in opposite order
pub opposed_quotient : {A : Type 0} (r : Ring A) (n : ℕ) (m d c : Matrix A) → IsQuotient r n m d → Same c (opposite_rows d) → IsQuotient r n (opposite_rows m) c
opposed_quotient r n m d c quotient same = record {
  height = same.height ∙ quotient.height;
  width = same.width ∙ quotient.width;
  entries = λ i j below inside.
      let tall : d.height ≡ m.height = quotient.height in
      let row : (d.height - i) % d.height < m.height = subst (λ (h : ℕ). (h - i) % h < m.height) (sym tall) (mod-lt (m.height - i) (omega arith)) in
      ap (r.mul (count r n)) (same.alike i j (omega (arith, same.height)) (omega (arith, same.width, quotient.width)))
      ∙ quotient.entries ((d.height - i) % d.height) j row inside ∙ ap (λ h. m.entry ((h - i) % h) j) tall;
}

module _ {A : Type 0} (R : Ring A) where
  open R use {mul as ◌⊗◌}

  infixl 70 ◌⊗◌
  -- a quotient whose rows are reversed
  pub reversed_quotient : (k n : ℕ) (m out : Matrix A) → m.height ≡ 2 ^ k → IsQuotient R n m out → IsQuotient R n (bit_reversal k m) (bit_reversal k out)
  reversed_quotient k n m out high quotient = record {
    height = quotient.height;
    width = quotient.width;
    entries = λ i j below inside. quotient.entries (rev k i) j (omega (arith, rev-lt k i, high)) inside;
  }

  -- rows times the powers of s, and times the inverse of n, are rows divided by n, and then times the powers of s
  pub shifted_quotient : (n : ℕ) (inverse s : A) (m out : Matrix A) → count R n ⊗ inverse ≡ R.one → Same out (image (λ x. x ⊗ inverse) (coset_shift R s m))
      → (c : Matrix A) × IsQuotient R n m c × Same out (coset_shift R s c)
  shifted_quotient n inverse s m out undone same = (
    image (λ x. x ⊗ inverse) m,
    quotient_of_products R n inverse m (image (λ x. x ⊗ inverse) m) undone (record { height = refl; width = refl; alike = λ i j p q. refl }),
    record {
      height = same.height;
      width = same.width;
      alike = λ i j p q.
          same.alike i j p q ∙ R.mul_assoc (m.entry i j) (power R s i) inverse ∙ ap (λ x. m.entry i j ⊗ x) (R.mul_comm (power R s i) inverse)
          ∙ sym (R.mul_assoc (m.entry i j) inverse (power R s i));
    },
  )

  -- rows times the powers of s, and times one
  pub shifted_by_one : (one s : A) (m out : Matrix A) → one ≡ R.one → Same out (image (λ x. x ⊗ one) (coset_shift R s m)) → Same out (coset_shift R s m)
  shifted_by_one one s m out is same = record {
    height = same.height;
    width = same.width;
    alike = λ i j p q. same.alike i j p q ∙ ap (λ x. (m.entry i j ⊗ power R s i) ⊗ x) is ∙ R.mul_one (m.entry i j ⊗ power R s i);
  }
