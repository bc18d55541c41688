-- Values of polynomials that are made of others: sums of multiples, columns that are chosen, rows of zeros, and another coset.
use Rattle.p3_matrix.proofs.Names.{◌≡◌, ℕ, ◌+◌, ◌-◌, ◌<◌, ◌≤◌, cond, lt-ltb, le-ltb, refl, sym, ap, ap₂, ◌∙◌, arith, Ring, Matrix, point, IsValues, coset_shift}
use Rattle.p3_matrix.proofs.Names.{poly}
use Rattle.p3_matrix.specs.Combinations.{alone, chosen, combination, lengthened}
use Rattle.p3_matrix.proofs.Polynomials.Cosets.{entry-poly, is_values, point-mul, point_of_one, values_from}
use Rattle.p3_matrix.proofs.Polynomials.ByIndex.{poly_same, poly_padded, poly-add, poly-scaled, poly-times}

module _ {A : Type 0} (R : Ring A) (g : ℕ → A) where
  pub combination_values : (c d y z : Matrix A) (n : ℕ) (s a b : A) → c.height ≡ d.height → c.width ≡ d.width
      → IsValues R g c n s y → IsValues R g d n s z → IsValues R g (combination R a c b d) n s (combination R a y b z)
  combination_values c d y z n s a b high wide v w =
      is_values R g (combination R a c b d) n s (combination R a y b z) v.height v.width
      (λ i j p q.
      let x = point R g n s i in
      let f = λ (u : ℕ). c.entry u j in
      let h = λ (u : ℕ). d.entry u j in
      ap₂ (λ e o. R.add (R.mul a e) (R.mul b o)) (entry-poly R g c n s y v i j p q)
      (entry-poly R g d n s z w i j p (omega (arith, wide)) ∙ ap (λ k. poly R k h x) (sym high))
      ∙ sym (poly-add R c.height (λ u. R.mul a (f u)) (λ u. R.mul b (h u)) x
      ∙ ap₂ R.add (poly-times R c.height a f x) (poly-times R c.height b h x)))

  pub chosen_values : (c y : Matrix A) (n : ℕ) (s : A) (place : ℕ → ℕ) (w : ℕ) → ((j : ℕ) → j < w → place j < c.width) → IsValues R g c n s y
      → IsValues R g (chosen place w c) n s (chosen place w y)
  chosen_values c y n s place w inside v =
      is_values R g (chosen place w c) n s (chosen place w y) v.height refl (λ i j p below. entry-poly R g c n s y v i (place j) p (inside j below))

  pub column_values : (c y : Matrix A) (n : ℕ) (s : A) (j : ℕ) → j < c.width → IsValues R g c n s y → IsValues R g (alone j c) n s (alone j y)
  column_values c y n s j inside v = chosen_values c y n s (λ _. j) 1 (λ _ _. inside) v

  -- rows of zeros below the coefficients change no value
  pub lengthened_values : (c y : Matrix A) (h n : ℕ) (s : A) → c.height ≤ h → IsValues R g c n s y → IsValues R g (lengthened R.zero h c) n s y
  lengthened_values c y h n s more v =
      let split : h ≡ c.height + (h - c.height) = omega (arith, more) in
      values_from R g (lengthened R.zero h c) c n s s y refl
      (λ i j p q.
      let x = point R g n s i in
      let f = λ (u : ℕ). (lengthened R.zero h c).entry u j in
      sym (ap (λ k. poly R k f x) split
      ∙ poly_padded R c.height (h - c.height) f x (λ u after below. ap (λ t. cond t (c.entry u j) R.zero) (le-ltb u c.height after))
      ∙ poly_same R c.height f (λ u. c.entry u j) x (λ u below. ap (λ t. cond t (c.entry u j) R.zero) (lt-ltb u c.height below))))
      v

  -- the values on the coset of s are those of the shifted coefficients on the subgroup
  pub values_of_shifted : (c y : Matrix A) (n : ℕ) (s : A) → IsValues R g c n s y → IsValues R g (coset_shift R s c) n R.one y
  values_of_shifted c y n s v =
      values_from R g (coset_shift R s c) c n R.one s y refl
      (λ i j p q.
      sym (poly-scaled R c.height (λ u. c.entry u j) s (point R g n R.one i)
      ∙ ap (poly R c.height (λ u. c.entry u j)) (ap (R.mul s) (point_of_one R g n i) ∙ sym (point-mul R g n s i))))
      v
