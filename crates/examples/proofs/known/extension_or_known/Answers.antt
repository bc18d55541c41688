use Rattle.std.proofs.Common.{sym, ◌∙◌}
use Rattle.p3_dft.proofs.Laws.Equality.{same_of_equal}
use Rattle.p3_dft.proofs.Laws.TwoCalls.{extension_of_equal}
use Rattle.examples.proofs.known.extension_or_known.Goals as goal

pub returns-then-eq-clause-extension : goal.returns-then-eq-clause-extension
returns-then-eq-clause-extension g c =
    let same = same_of_equal g.F.Valued g.F.PartialEq.eq g.met.F.Field.eq_law c.args.known.now c.args.values (sym c.eq.ensures ∙ c.if-eq.true) in
    extension_of_equal g.F.Valued g.F.TwoAdicField.generator g.met.F.TwoAdicField.roots_law c.args.known.now
    c.args.values c.in_ok-try_clone.field-0 c.args.added_bits (g.F.Valued.value c.args.shift) same
    (rw c.in_ok-try_clone.ensures.copy c.requires.known)
