use Rattle.p3_field.proofs.Lemmas.{◌+◌, ◌%◌, refl, lanes_of_pairs}
use Rattle.p3_field.proofs.residue31_x16.Residue31X16PackedField.add.Goals as goal

pub returns : goal.returns
returns g c =
    let m = g.N.Numbers.numbers.modulus in
    lanes_of_pairs _ _ (λ n h. refl) _ (λ x y. (x + y) % m) (λ x y. refl) c.args.self.lanes c.args.other.lanes
    c.sums.result c.args.self.below c.args.other.below _ c.sums.ensures.value
