use Rattle.std.proofs.Common.{ap, ◌∙◌}
use Rattle.examples.proofs.extended.extension_on_the_subgroup.Goals as goal

pub returns-clause-values : goal.returns-clause-values
returns-clause-values g c = rw (ap g.F.Valued.value c.ONE.ensures ∙ g.met.F.Field.one_law) at c.coset_lde_batch.ensures.values
