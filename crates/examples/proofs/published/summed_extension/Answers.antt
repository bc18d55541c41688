use Rattle.std.proofs.Common.{of_calls}
use Rattle.examples.proofs.BlockSums.{published_total}
use Rattle.examples.proofs.published.summed_extension.Goals as goal

pub returns-clause-summed : goal.returns-clause-summed
returns-clause-summed g c =
    let field = g.F.Valued in
    published_total field.ring field.value field.zero _ _ (λ s. field.value s.sum) _ c.in_ok-out.out.physical c.in_ok-out.total c.height-whole.ensures.whole
    (λ s start r e told. told.1) (λ s made. search of_calls) (c.in_ok-out.ensures.published c.requires.log c.requires.height)
