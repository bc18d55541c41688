use Rattle.p3_field.proofs.Lemmas.{refl, subst, sym, ◌<◌, goldilocks_modulus, goldilocks_numbers, goldilocks_generator, residue-eq, listed_generator}
use Rattle.p3_field.proofs.goldilocks.GoldilocksInTwoAdicField.two_adic_generator.Goals as goal

pub invariant_of-result : goal.invariant_of-result
invariant_of-result g c = record {
  below =
      subst (λ n. n < goldilocks_modulus) (sym (listed_generator goldilocks_numbers _ refl c.args.bits c.requires))
      (goldilocks_generator c.args.bits).below;
}

pub returns : goal.returns
returns g c = residue-eq _ _ (listed_generator goldilocks_numbers _ refl c.args.bits c.requires)
