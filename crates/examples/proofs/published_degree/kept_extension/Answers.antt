use Rattle.std.proofs.Common.{of_calls, rules}
use Rattle.p3_dft.proofs.Laws.Blocks.{copied_extension}
use Rattle.examples.proofs.published_degree.kept_extension.Goals as goal

pub in_natural_order-requires : goal.in_natural_order-requires
in_natural_order-requires g c =
    copied_extension g.F.Valued c.in_ok-out.out.bits (λ s. s.entries.items) (λ s start rows e told. told.1) (λ s made. search (rules, of_calls)) c.requires
    c.inner-whole.ensures.whole c.inner-whole.ensures.height c.in_ok-out.ensures.values (c.in_ok-out.ensures.published c.requires.log c.requires.height)
