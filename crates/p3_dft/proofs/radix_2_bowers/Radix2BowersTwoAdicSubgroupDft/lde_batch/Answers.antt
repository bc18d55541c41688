use Rattle.std.proofs.Common.{ap, ◌∙◌}
use Rattle.p3_dft.proofs.radix_2_bowers.Radix2BowersTwoAdicSubgroupDft.lde_batch.Goals as goal

pub returns-clause-values : goal.returns-clause-values
returns-clause-values g c = rw (ap g.F.Valued.value c.ONE.ensures ∙ g.met.F.Field.one_law) at c.coset_lde_batch.ensures.values
