use Rattle.std.proofs.Common.{sym}
use Rattle.p3_dft.proofs.Laws.OneAnswer.{one_extension}
use Rattle.examples.proofs.agreement.two_extensions.Goals as goal

pub returns-clause-same : goal.returns-clause-same
returns-clause-same g c =
    one_extension g.F.Valued g.F.TwoAdicField.generator g.F.TwoAdicField.TWO_ADICITY g.met.F.TwoAdicField.roots_law
    c.args.mat _ _ c.args.added_bits (g.F.Valued.value c.args.shift)
    c.requires (rw (sym c.in_ok-try_clone.ensures.copy) c.in_ok-first.ensures.values) c.in_ok-second.ensures.values

pub returns-clause-values : goal.returns-clause-values
returns-clause-values g c = rw (sym c.in_ok-try_clone.ensures.copy) c.in_ok-first.ensures.values
