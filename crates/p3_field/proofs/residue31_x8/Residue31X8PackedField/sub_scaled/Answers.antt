use Rattle.p3_field.proofs.Lemmas.{ap, map, ◌∙◌, ◌+◌, ◌-◌, ◌*◌, ◌%◌, refl, add-mod-mod, Residue, multiples_of_loose, lanes_of_each_pair}
use Rattle.p3_field.proofs.residue31_x8.Residue31X8PackedField.sub_scaled.Goals as goal

pub returns-clause-lanes : goal.returns-clause-lanes
returns-clause-lanes g c =
    let m = g.N.Numbers.numbers.modulus in
    let t = c.args.t.number in
    let xs = c.args.self.lanes in
    let ys = c.args.other.lanes in
    lanes_of_each_pair _ _ (λ n h. refl) _ (λ x y. (x + (m - y)) % m) (λ (x y : Residue m). add-mod-mod x.number (m - y.number) m)
    _ (λ x. (x * t) % m) (λ x. refl) xs ys c.multiples.result c.args.self.below c.args.other.below _
    (c.multiples.ensures.value ∙ ap (map (λ x. (x * t) % m)) c.loose_differences.ensures ∙ multiples_of_loose m t xs ys)
