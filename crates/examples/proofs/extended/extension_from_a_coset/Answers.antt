use Rattle.p3_dft.proofs.Laws.TwoCalls.{extension_of_coset}
use Rattle.std.proofs.lemmas.Result.{IfOk-weaker}
use Rattle.examples.proofs.extended.extension_from_a_coset.Goals as goal

pub returns-clause-values : goal.returns-clause-values
returns-clause-values g c =
    IfOk-weaker c.coset_lde_batch.result _ _
    (λ out given. extension_of_coset g.F.Valued g.F.TwoAdicField.generator g.met.F.TwoAdicField.roots_law
    c.args.coefficients c.to_row_major_matrix.result _ c.args.added_bits
    (g.F.Valued.value c.args.first) (g.F.Valued.value c.args.second) c.requires (rw c.to_row_major_matrix.ensures c.in_ok-values.ensures.values) given)
    c.coset_lde_batch.ensures.values
