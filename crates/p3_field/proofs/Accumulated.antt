-- Sums and products that are taken one element after another.
use Rattle.p3_field.proofs.Names.{◌≡◌, List, [], ◌∷◌, map, sym, ap, ◌∙◌, FoldsTo, Ring, sum_of, product_of}
use Rattle.p3_field.proofs.Rings

module _ {A S : Type 0} (R : Ring A) (v : S → A) (step : S → S → S → Type 0) where
  added : ((a x b : S) → step a x b → v b ≡ R.add (v a) (v x)) → (s : S) (xs : List S) (r : S) → FoldsTo step s xs r → v r ≡ R.add (v s) (sum_of R (map v xs))
  unfolding sum_of
  added law s [] r e = ap v (sym e) ∙ sym (R.add_zero (v s))
  added law s (x ∷ xs) r (j, one, rest) =
      added law j xs r rest ∙ ap (λ a. R.add a (sum_of R (map v xs))) (law s x j one)
      ∙ R.add_assoc (v s) (v x) (sum_of R (map v xs))

  pub added_up : ((a x b : S) → step a x b → v b ≡ R.add (v a) (v x)) → (s : S) → v s ≡ R.zero → (xs : List S) (r : S)
      → FoldsTo step s xs r → v r ≡ sum_of R (map v xs)
  added_up law s zero xs r steps = added law s xs r steps ∙ ap (λ a. R.add a (sum_of R (map v xs))) zero ∙ Rings.zero-add R (sum_of R (map v xs))

  times : ((a x b : S) → step a x b → v b ≡ R.mul (v a) (v x)) → (s : S) (xs : List S) (r : S) → FoldsTo step s xs r
      → v r ≡ R.mul (v s) (product_of R (map v xs))
  unfolding product_of
  times law s [] r e = ap v (sym e) ∙ sym (R.mul_one (v s))
  times law s (x ∷ xs) r (j, one, rest) =
      times law j xs r rest ∙ ap (λ a. R.mul a (product_of R (map v xs))) (law s x j one)
      ∙ R.mul_assoc (v s) (v x) (product_of R (map v xs))

  pub multiplied : ((a x b : S) → step a x b → v b ≡ R.mul (v a) (v x)) → (s : S) → v s ≡ R.one → (xs : List S) (r : S)
      → FoldsTo step s xs r → v r ≡ product_of R (map v xs)
  multiplied law s one xs r steps = times law s xs r steps ∙ ap (λ a. R.mul a (product_of R (map v xs))) one ∙ Rings.one-mul R (product_of R (map v xs))
