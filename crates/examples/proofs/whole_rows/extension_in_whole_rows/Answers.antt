use Rattle.std.proofs.Common.{of_calls}
use Rattle.std.proofs.lemmas.Result.{IfOk-weaker}
use Rattle.p3_matrix.specs.Cosets.{values_of}
use Rattle.p3_dft.proofs.Calls.ExtendedTransforms.{extended_of_same}
use Rattle.examples.proofs.whole_rows.extension_in_whole_rows.Goals as goal

pub returns-clause-extension : goal.returns-clause-extension
returns-clause-extension g c =
    IfOk-weaker c.coset_lde_batch_with_transform.result _ _
    (λ out given.
    extended_of_same g.F.Valued g.F.TwoAdicField.generator _ g.D.TwoAdicSubgroupDft.LAYOUT c.args.mat
    (values_of g.F.Valued (g.D.Evaluations.Evaluations.natural out))
    c.args.added_bits (g.F.Valued.value c.args.shift) (λ told answered called. search of_calls) given)
    c.coset_lde_batch_with_transform.ensures.values
