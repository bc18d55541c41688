use Rattle.p3_field.proofs.Lemmas.{ℕ, List, [], ◌∷◌, zero, suc, ◌≡◌, ◌∙◌, ap, length, map, replicate, arith, ◌*◌, ◌%◌, refl, sym, subst, lit<, mod-lt}
use Rattle.p3_field.proofs.Lemmas.{length-map, zip2, goldilocks_modulus, AreBelow, lanes_of_each, each_below}
use Rattle.p3_field.proofs.goldilocks_x8.GoldilocksX8PackedField.scaled.Goals as goal

with_splat : (t : ℕ) (xs : List ℕ) (n : ℕ) → length xs ≡ n
    → zip2 (λ x y. (x * y) % goldilocks_modulus) xs (replicate n t) ≡ map (λ x. (x * t) % goldilocks_modulus) xs
with_splat t [] n e = refl
with_splat t (x ∷ xs) zero e = absurd (omega (arith, e))
with_splat t (x ∷ xs) (suc n) e = ap (λ ys. (x * t) % goldilocks_modulus ∷ ys) (with_splat t xs n (omega (arith, e)))

pub invariant_of-result : goal.invariant_of-result
invariant_of-result c =
    let f : ℕ → ℕ = λ x. (x * c.args.t.number) % goldilocks_modulus in
    let is = c.lane_products.ensures ∙ with_splat c.args.t.number c.args.self.lanes 8 c.args.self.eight in
    record {
      below = subst (AreBelow goldilocks_modulus) (sym is) (each_below f (λ x. mod-lt (x * c.args.t.number) (lit< tt)) c.args.self.lanes);
      eight = ap length is ∙ length-map c.args.self.lanes f ∙ c.args.self.eight;
    }

pub returns-clause-lanes : goal.returns-clause-lanes
returns-clause-lanes c =
    lanes_of_each _ _ (λ n h. refl) _ (λ x. (x * c.args.t.number) % goldilocks_modulus) (λ x. refl) c.args.self.lanes c.lane_products.result c.args.self.below _
    (c.lane_products.ensures ∙ with_splat c.args.t.number c.args.self.lanes 8 c.args.self.eight)
