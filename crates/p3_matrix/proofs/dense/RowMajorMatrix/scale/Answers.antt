use Rattle.p3_matrix.proofs.Lemmas.{all_written, ap, length, map, ◌∙◌}
use Rattle.p3_matrix.proofs.dense.RowMajorMatrix.scale.Goals as goal

pub returns-clause-values : goal.returns-clause-values
returns-clause-values g c =
    ap (map g.F.Valued.value) (all_written c.args.self.now.values c.scale_slice_in_place.new.values
    (c.scale_slice_in_place.auto.values ∙ ap length c.values_mut.ensures.values))
    ∙ c.scale_slice_in_place.ensures.values ∙ ap
    (λ xs. map (λ x. g.F.Valued.ring.mul x (g.F.Valued.value c.args.t)) (map g.F.Valued.value xs))
    c.values_mut.ensures.values
