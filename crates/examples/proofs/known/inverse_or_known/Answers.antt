use Rattle.std.proofs.Common.{sym, ◌∙◌}
use Rattle.p3_dft.proofs.Laws.Equality.{same_of_equal}
use Rattle.p3_dft.proofs.Laws.TwoCalls.{interpolation_of_equal}
use Rattle.examples.proofs.known.inverse_or_known.Goals as goal

pub returns-then-eq-clause-coefficients : goal.returns-then-eq-clause-coefficients
returns-then-eq-clause-coefficients g c =
    let same = same_of_equal g.F.Valued g.F.PartialEq.eq g.met.F.Field.eq_law c.args.known.now c.args.values (sym c.eq.ensures ∙ c.if-eq.true) in
    interpolation_of_equal g.F.Valued g.F.TwoAdicField.generator g.met.F.TwoAdicField.roots_law c.args.known.now
    c.args.values c.in_ok-try_clone.field-0 g.F.Valued.ring.one same
    (rw c.in_ok-try_clone.ensures.copy c.requires.known)
