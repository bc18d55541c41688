use Rattle.p3_field.proofs.Lemmas.{◌*◌, ◌%◌, refl, lanes_of_pairs}
use Rattle.p3_field.proofs.residue31_x8.Residue31X8PackedField.multiplied.Goals as goal

pub returns-clause-lanes : goal.returns-clause-lanes
returns-clause-lanes g c =
    let m = g.N.Numbers.numbers.modulus in
    lanes_of_pairs _ _ (λ n h. refl) _ (λ x y. (x * y) % m) (λ x y. refl) c.args.self.lanes c.args.other.lanes
    c.lane_products.result c.args.self.below c.args.other.below _ c.lane_products.ensures.value
