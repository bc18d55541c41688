use Rattle.std.proofs.Common.{ap, ◌∙◌}
use Rattle.examples.proofs.there_and_back.values_on_the_coset_of_one.Goals as goal

pub returns-clause-values : goal.returns-clause-values
returns-clause-values g c = rw (ap g.F.Valued.value c.ONE.ensures ∙ g.met.F.Field.one_law) at c.coset_dft_batch.ensures.values
