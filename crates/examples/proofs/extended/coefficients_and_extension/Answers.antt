use Rattle.std.proofs.Common.{sym}
use Rattle.p3_dft.proofs.Laws.TwoCalls.{extension_values}
use Rattle.examples.proofs.extended.coefficients_and_extension.Goals as goal

pub returns-clause-values : goal.returns-clause-values
returns-clause-values g c =
    extension_values g.F.Valued g.F.TwoAdicField.generator g.met.F.TwoAdicField.roots_law c.args.mat _ _ c.args.added_bits (g.F.Valued.value c.args.shift)
    c.requires (rw (sym c.in_ok-try_clone.ensures.copy) c.in_ok-coefficients.ensures.coefficients) c.in_ok-values.ensures.values

pub returns-clause-coefficients : goal.returns-clause-coefficients
returns-clause-coefficients g c = rw (sym c.in_ok-try_clone.ensures.copy) c.in_ok-coefficients.ensures.coefficients
