use Rattle.p3_dft.proofs.Lemmas.{ℕ, ◌^◌, sym, ap, ◌∙◌, arith, power, rev, bit_reversal, rev-lt, rev-rev, poly, values_of, poly_same, is_subgroup_values}
use Rattle.p3_dft.proofs.Lemmas.{transform_seen}
use Rattle.p3_dft.proofs.radix_2_dit_parallel.transform.EvaluationMatrixWorkTables.on_matrix.Goals as goal

pub returns-clause-takes : goal.returns-clause-takes
returns-clause-takes g c =
    let field = g.F.Valued in
    let gen = g.F.TwoAdicField.generator in
    let k = c.args.log_h in
    let m = c.args.mat.now in
    let out = c.transform_to_reversed.new.mat in
    let same = c.transform_to_reversed.ensures.same in (
      same.shape,
      λ bits high.
          transform_seen field gen m out _ k bits c.requires.rows.height c.requires.rows.whole same.shape same.size high
          (is_subgroup_values field.ring (λ n. field.value (gen n)) (values_of field m) k
          (bit_reversal k (values_of field out)) (same.shape.0 ∙ c.requires.rows.height) same.shape.1
          (λ i j below inside.
          let f = λ (q : ℕ). (values_of field m).entry q j in
          c.transform_to_reversed.ensures.values (rev k i) j (rev-lt k i) inside
          ∙ ap (λ r. poly field.ring (2 ^ k) (λ q. field.ring.mul (f q) field.ring.one) (power field.ring (field.value (gen k)) r)) (rev-rev k i below)
          ∙ poly_same field.ring (2 ^ k) _ f (power field.ring (field.value (gen k)) i) (λ q p. field.ring.mul_one (f q))
          ∙ ap (λ n. poly field.ring n f (power field.ring (field.value (gen k)) i)) (sym c.requires.rows.height))),
    )

pub returns-clause-cost : goal.returns-clause-cost
returns-clause-cost g c = omega (arith, c.transform_to_reversed.ensures.cost)
