-- Lists of powers, which are made one after another.
use Rattle.p3_field.proofs.Names.{◌≡◌, ℕ, ◌+◌, ◌<◌, List, [], ◌∷◌, ◌++◌, length, get_or, sym, ap, ◌∙◌, arith, get_or_append_left, get_or_push, Ring, power}
use Rattle.p3_field.proofs.Powers.{power-zero, power-more}
use borrow.Author.Count.{below_more}

module _ {A : Type 0} (R : Ring A) where
  pub first_power : (s x : A) → s ≡ R.mul s (power R x 0)
  first_power s x = sym (ap (R.mul s) (power-zero R x) ∙ R.mul_one s)

  pub next_power : (s x y z : A) (n : ℕ) → y ≡ R.mul s (power R x n) → z ≡ R.mul y x → z ≡ R.mul s (power R x (n + 1))
  next_power s x y z n so_far is = is ∙ ap (λ w. R.mul w x) so_far ∙ R.mul_assoc s (power R x n) x ∙ ap (R.mul s) (sym (power-more R x n))

module _ {S A : Type 0} (v : S → A) (z : S) (want : ℕ → A) where
  pub next_pushed : (xs ys : List S) (n : ℕ) (y : S) → ys ≡ xs ++ y ∷ [] → length xs ≡ n
      → ((k : ℕ) → k < n → v (get_or xs k z) ≡ want k) → v y ≡ want n → (k : ℕ) → k < n + 1 → v (get_or ys k z) ≡ want k
  next_pushed xs ys n y pushed long so_far is =
      below_more (λ k. v (get_or ys k z) ≡ want k) n
      (λ k below. ap (λ zs. v (get_or zs k z)) pushed ∙ ap v (get_or_append_left xs (y ∷ []) z k (omega arith)) ∙ so_far k below)
      (ap (λ zs. v (get_or zs n z)) pushed ∙ ap v (get_or_push xs y z n long) ∙ is)
