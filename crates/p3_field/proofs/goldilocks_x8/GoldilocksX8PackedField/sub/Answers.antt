use Rattle.p3_field.proofs.Lemmas.{◌∙◌, ap, length, ◌+◌, ◌-◌, ◌%◌, refl, sym, subst, lit<, mod-lt, add-mod-mod, length-zip2, goldilocks_modulus, AreBelow}
use Rattle.p3_field.proofs.Lemmas.{Residue, lanes_of_pairs, pairs_below}
use Rattle.p3_field.proofs.goldilocks_x8.GoldilocksX8PackedField.sub.Goals as goal

pub invariant_of-result : goal.invariant_of-result
invariant_of-result c = record {
  below =
      subst (AreBelow goldilocks_modulus) (sym c.differences.ensures) (pairs_below
      (λ x y. (x + (goldilocks_modulus - y)) % goldilocks_modulus)
      (λ x y. mod-lt (x + (goldilocks_modulus - y)) (lit< tt)) c.args.self.lanes c.args.other.lanes);
  eight =
      ap length c.differences.ensures
      ∙ length-zip2 (λ x y. (x + (goldilocks_modulus - y)) % goldilocks_modulus) c.args.self.lanes c.args.other.lanes
      (c.args.self.eight ∙ sym c.args.other.eight)
      ∙ c.args.self.eight;
}

pub returns : goal.returns
returns c =
    lanes_of_pairs _ _ (λ n h. refl) _ (λ x y. (x + (goldilocks_modulus - y)) % goldilocks_modulus)
    (λ (x y : Residue goldilocks_modulus). add-mod-mod x.number (goldilocks_modulus - y.number) goldilocks_modulus)
    c.args.self.lanes c.args.other.lanes c.differences.result c.args.self.below c.args.other.below _
    c.differences.ensures
