use Rattle.p3_field.proofs.Lemmas.{◌∙◌, ap, length, ◌*◌, ◌%◌, refl, sym, subst, lit<, mod-lt, length-zip2, goldilocks_modulus, AreBelow, Residue}
use Rattle.p3_field.proofs.Lemmas.{lanes_of_pairs, pairs_below}
use Rattle.p3_field.proofs.goldilocks_x8.GoldilocksX8PackedField.multiplied.Goals as goal

pub invariant_of-result : goal.invariant_of-result
invariant_of-result c = record {
  below =
      subst (AreBelow goldilocks_modulus) (sym c.lane_products.ensures) (pairs_below
      (λ x y. (x * y) % goldilocks_modulus) (λ x y. mod-lt (x * y) (lit< tt)) c.args.self.lanes c.args.other.lanes);
  eight =
      ap length c.lane_products.ensures
      ∙ length-zip2 (λ x y. (x * y) % goldilocks_modulus) c.args.self.lanes c.args.other.lanes
      (c.args.self.eight ∙ sym c.args.other.eight)
      ∙ c.args.self.eight;
}

pub returns-clause-lanes : goal.returns-clause-lanes
returns-clause-lanes c =
    lanes_of_pairs _ _ (λ n h. refl) _ (λ x y. (x * y) % goldilocks_modulus)
    (λ (x y : Residue goldilocks_modulus). refl) c.args.self.lanes c.args.other.lanes c.lane_products.result
    c.args.self.below c.args.other.below _ c.lane_products.ensures
