use Rattle.p3_field.proofs.Lemmas.{refl, goldilocks_modulus, goldilocks_ring, residue-eq, residue_at, added_up}
use Rattle.p3_field.proofs.goldilocks.GoldilocksInSum.sum.Goals as goal

pub returns : goal.returns
returns g c =
    let (xs, drained, steps) = c.add_all.ensures in
    record {
      ran = (
        xs,
        (λ _. drained),
        added_up goldilocks_ring (λ x. residue_at goldilocks_modulus x.number x.below) _
            (λ a x b is. residue-eq _ _ is) _ (residue-eq _ _ refl) xs _ steps,
      );
    }
