use Rattle.p3_dft.proofs.Laws.TwoCalls.{extension_keeps_rows}
use Rattle.std.proofs.lemmas.Result.{IfOk-weaker}
use Rattle.examples.proofs.extended.extension_with_the_rows.Goals as goal

pub returns-clause-rows : goal.returns-clause-rows
returns-clause-rows g c =
    IfOk-weaker c.lde_batch.result _ _
    (λ out given. extension_keeps_rows g.F.Valued g.F.TwoAdicField.generator g.met.F.TwoAdicField.roots_law c.args.mat _ c.args.added_bits c.requires given)
    c.lde_batch.ensures.values
