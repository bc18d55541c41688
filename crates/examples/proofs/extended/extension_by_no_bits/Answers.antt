use Rattle.std.proofs.lemmas.Result.{IfOk-weaker}
use Rattle.p3_dft.proofs.Calls.Shapes.{input_fits}
use Rattle.p3_dft.proofs.Laws.TwoCalls.{extension_by_nothing}
use Rattle.examples.proofs.extended.extension_by_no_bits.Goals as goal

pub returns-clause-same : goal.returns-clause-same
returns-clause-same g c =
    IfOk-weaker c.lde_batch.result _ _
    (λ out given. extension_by_nothing g.F.Valued g.F.TwoAdicField.generator c.args.mat _ (input_fits _ _ _ _ c.requires) given)
    c.lde_batch.ensures.values
