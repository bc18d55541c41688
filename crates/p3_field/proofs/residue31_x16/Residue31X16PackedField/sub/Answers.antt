use Rattle.p3_field.proofs.Lemmas.{◌+◌, ◌-◌, ◌%◌, refl, add-mod-mod, Residue, lanes_of_pairs}
use Rattle.p3_field.proofs.residue31_x16.Residue31X16PackedField.sub.Goals as goal

pub returns : goal.returns
returns g c =
    let m = g.N.Numbers.numbers.modulus in
    lanes_of_pairs _ _ (λ n h. refl) _ (λ x y. (x + (m - y)) % m)
    (λ (x y : Residue m). add-mod-mod x.number (m - y.number) m) c.args.self.lanes c.args.other.lanes
    c.differences.result c.args.self.below c.args.other.below _ c.differences.ensures.value
