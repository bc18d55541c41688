use Rattle.std.proofs.Common.{subst, sym, ap, ◌∙◌}
use Rattle.p3_field.specs.Ring.{IsInvertible}
use Rattle.examples.proofs.there_and_back.coefficients_on_the_coset_of_one.Goals as goal

pub coset_idft_batch-requires-clause-invertible : goal.coset_idft_batch-requires-clause-invertible
coset_idft_batch-requires-clause-invertible g c =
    let ring = g.F.Valued.ring in
    subst (IsInvertible ring) (sym (ap g.F.Valued.value c.ONE.ensures ∙ g.met.F.Field.one_law)) (ring.one, ring.mul_one ring.one)

pub returns-clause-coefficients : goal.returns-clause-coefficients
returns-clause-coefficients g c = rw (ap g.F.Valued.value c.ONE.ensures ∙ g.met.F.Field.one_law) at c.coset_idft_batch.ensures.coefficients
