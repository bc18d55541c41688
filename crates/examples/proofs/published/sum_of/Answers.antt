use Rattle.std.proofs.Common.{ap, sym, ◌∙◌}
use Rattle.std.proofs.lemmas.List.{get_or_default}
use Rattle.examples.proofs.BlockSums.{sum_step, sum_none}
use Rattle.examples.proofs.published.sum_of.Goals as goal

pub loop-i-init : goal.loop-i-init
loop-i-init g c = ap g.F.Valued.value c.ZERO-sum.ensures ∙ g.met.F.Field.zero_law ∙ sym (sum_none g.F.Valued.ring _)

pub loop-i-preserved : goal.loop-i-preserved
loop-i-preserved g c =
    let field = g.F.Valued in
    sum_step field.ring c.loop-i.i _ _ _ _ c.loop-i.invariant (ap field.value (c.index-elements-i.is
    ∙ get_or_default c.args.elements.now c.loop-i.i c.index-elements-i.result field.zero c.loop-i-test.true))
    (g.met.F.Field.add_law c.loop-i.sum c.index-elements-i.result c.add-sum.result c.add-sum.ensures)
