use Rattle.p3_field.proofs.Lemmas.{◌*◌, ◌%◌, refl, lanes_of_each}
use Rattle.p3_field.proofs.residue31_x16.Residue31X16PackedField.scaled.Goals as goal

pub returns-clause-lanes : goal.returns-clause-lanes
returns-clause-lanes g c =
    let m = g.N.Numbers.numbers.modulus in
    lanes_of_each _ _ (λ n h. refl) _ (λ x. (x * c.args.t.number) % m) (λ x. refl) c.args.self.lanes c.multiples.result
    c.args.self.below _ c.multiples.ensures.value
