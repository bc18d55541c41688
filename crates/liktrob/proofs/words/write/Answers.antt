use Rattle.std.proofs.Common.{rules, ap, ◌∙◌}
use Rattle.liktrob.proofs.Named.{one_written}
use Rattle.liktrob.proofs.words.write.Goals as goal

pub loop-i-preserved : goal.loop-i-preserved
loop-i-preserved g c =
    one_written _ c.loop-i.words c.args.elements.now c.loop-i.i c.to_word.result c.index-elements-i.result (search rules) (search rules) c.loop-i.invariant
    (c.to_word.ensures ∙ ap (λ x. g.F.Valued.number (g.F.Valued.value x)) c.index-elements-i.is)
