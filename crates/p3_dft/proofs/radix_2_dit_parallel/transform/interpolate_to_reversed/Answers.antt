use Rattle.p3_dft.proofs.Lemmas.{◌≡◌, ◌^◌, ap, ◌∙◌, count, count-power_of_two, height, values_of, coefficients_of_scaled}
use Rattle.p3_dft.proofs.radix_2_dit_parallel.transform.interpolate_to_reversed.Goals as goal

pub returns-clause-coefficients : goal.returns-clause-coefficients
returns-clause-coefficients g c =
    let field = g.F.Valued in
    let gen = g.F.TwoAdicField.generator in
    let k = c.args.log_h in
    let m = c.args.mat.now in
    let out = c.transform_to_reversed.new.mat in
    let scale = field.value c.div_2exp_u64-scale.result in
    let tall : height out ≡ height m = c.transform_to_reversed.ensures.same.shape.0 in
    let undone : field.ring.mul (count field.ring (2 ^ k)) scale ≡ field.ring.one =
    ap (λ x. field.ring.mul x scale) (count-power_of_two field.ring k) ∙ c.div_2exp_u64-scale.ensures ∙ ap field.value c.ONE.ensures ∙ g.met.F.Field.one_law in
    coefficients_of_scaled field.ring g.met.F.TwoAdicField.roots_law (values_of field m) (values_of field out) k scale
    c.requires.within c.requires.rows.height tall c.transform_to_reversed.ensures.same.shape.1 undone
    (λ i j below inside. c.transform_to_reversed.ensures.values i j below inside)
