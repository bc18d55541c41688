use Rattle.p3_field.proofs.Lemmas.{refl, field_ring, residue-eq, residue_at, multiplied}
use Rattle.p3_field.proofs.residue31.Residue31Product.product.Goals as goal

pub returns : goal.returns
returns g c =
    let (xs, drained, steps) = c.multiply_all.ensures in
    record {
      ran = (
        xs,
        (λ _. drained),
        multiplied (field_ring g.N.Numbers.numbers)
            (λ x. residue_at g.N.Numbers.numbers.modulus x.number x.below) _ (λ a x b is. residue-eq _ _ is) _
            (residue-eq _ _ refl) xs _ steps,
      );
    }
