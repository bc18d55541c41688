-- What the formulas of butterflies have to do with one another, by the laws of a ring.
use Rattle.p3_matrix.proofs.Names.{◌≡◌, sym, ap, ◌∙◌, Ring, minus, scaled_dit_near, scaled_dit_far}
use Rattle.p3_field.proofs.Rings.{add-mul, neg-mul}

module _ {A : Type 0} (r : Ring A) where
  -- a scale goes into the twiddle
  pub scaled_near : (t s p : A) → p ≡ r.mul t s → (x y : A) → r.add (r.mul x s) (r.mul y p) ≡ scaled_dit_near r t s x y
  scaled_near t s p e x y = ap (λ z. r.add (r.mul x s) z) (ap (r.mul y) e ∙ sym (r.mul_assoc y t s)) ∙ sym (add-mul r x (r.mul y t) s)

  pub scaled_far : (t s p : A) → p ≡ r.mul t s → (x y : A) → minus r (r.mul x s) (r.mul y p) ≡ scaled_dit_far r t s x y
  scaled_far t s p e x y =
      ap (λ z. r.add (r.mul x s) z)
      (ap r.neg (ap (r.mul y) e ∙ sym (r.mul_assoc y t s)) ∙ sym (neg-mul r (r.mul y t) s))
      ∙ sym (add-mul r x (r.neg (r.mul y t)) s)
