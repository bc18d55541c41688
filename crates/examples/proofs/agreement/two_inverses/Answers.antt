use Rattle.std.proofs.Common.{sym}
use Rattle.p3_dft.proofs.Laws.OneAnswer.{one_interpolation}
use Rattle.examples.proofs.agreement.two_inverses.Goals as goal

pub coset_idft_batch-requires-clause-fits : goal.coset_idft_batch-requires-clause-fits
coset_idft_batch-requires-clause-fits g c = rw c.in_ok-try_clone.ensures.copy c.requires.fits

pub returns-clause-same : goal.returns-clause-same
returns-clause-same g c =
    one_interpolation g.F.Valued g.F.TwoAdicField.generator g.F.TwoAdicField.TWO_ADICITY g.met.F.TwoAdicField.roots_law
    c.args.mat c.in_ok-first.first c.in_ok-second.second
    (g.F.Valued.value c.args.shift) c.requires.fits
    (rw (sym c.in_ok-try_clone.ensures.copy) c.in_ok-first.ensures.coefficients) c.in_ok-second.ensures.coefficients

pub returns-clause-coefficients : goal.returns-clause-coefficients
returns-clause-coefficients g c = rw (sym c.in_ok-try_clone.ensures.copy) c.in_ok-first.ensures.coefficients
