use Rattle.p3_networks.proofs.Lemmas.{rules, arith, ⊎_elim, cases_lt}
use Rattle.p3_networks.proofs.radix_2_dit_parallel.coset_tables.CosetTables.find.Goals as goal

pub returns-clause-none : goal.returns-clause-none
returns-clause-none g c none i below =
    ⊎_elim
    (λ less. c.find_within-2.ensures.none none i (omega arith) (omega (arith, less, below, c.min.ensures)))
    (λ more. c.in_default.ensures.none (search rules) i more below)
    (cases_lt i c.args.start)
