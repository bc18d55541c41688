-- The values of a matrix' columns at one point, as sums that are made term by term.
use Rattle.p3_matrix.proofs.Names.{◌≡◌, ℕ, ◌+◌, ◌*◌, ◌<◌, List, get_or, take, drop, sym, ap, ◌∙◌, arith, Ring, power, poly}
use Rattle.p3_matrix.proofs.Rows.Overwritten.{part_at}
use Rattle.p3_matrix.proofs.Polynomials.ByIndex.{poly-none, poly-more}

module _ {T A : Type 0} (r : Ring A) (value : T → A) (d : T) where
  -- entry k of sums is the sum of the first n terms, at x, of the polynomial in column k
  pub record AreSums (cs : List T) (w n : ℕ) (x : A) (sums : List T) : Type 0 where
    pub each : (k : ℕ) → k < w → value (get_or sums k d) ≡ poly r n (λ q. value (get_or cs (q * w + k) d)) x

  pub sums-none : (cs sums : List T) (w : ℕ) (x : A) → ((k : ℕ) → k < w → value (get_or sums k d) ≡ r.zero) → AreSums cs w 0 x sums
  sums-none cs sums w x zero = record { each = λ k inside. zero k inside ∙ sym (poly-none r (λ q. value (get_or cs (q * w + k) d)) x) }

  -- one more term
  pub sums-more : (cs sums sums' : List T) (w n m : ℕ) (x p : A) → m ≡ w → p ≡ power r x n
      → ((k : ℕ) → k < w → value (get_or sums' k d) ≡ r.add (value (get_or sums k d)) (r.mul (value (get_or (take m (drop (n * w) cs)) k d)) p))
      → AreSums cs w n x sums → AreSums cs w (n + 1) x sums'
  sums-more cs sums sums' w n m x p full is added before = record {
    each = λ k inside.
        let f = λ (q : ℕ). value (get_or cs (q * w + k) d) in
        let entry : value (get_or (take m (drop (n * w) cs)) k d) ≡ f n = ap value (part_at cs (n * w) m k d (omega arith)) in
        let term : r.mul (value (get_or (take m (drop (n * w) cs)) k d)) p ≡ r.mul (power r x n) (f n) =
        ap (λ y. r.mul y p) entry ∙ r.mul_comm (f n) p ∙ ap (λ y. r.mul y (f n)) is in
        added k inside ∙ ap (λ y. r.add y (r.mul (value (get_or (take m (drop (n * w) cs)) k d)) p)) (before.each k inside)
        ∙ ap (r.add (poly r n f x)) term ∙ sym (poly-more r n f x);
  }
