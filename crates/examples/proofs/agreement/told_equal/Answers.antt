use Rattle.std.proofs.Common.{sym, ◌∙◌}
use Rattle.p3_dft.proofs.Laws.Equality.{equal_of_same, same_of_equal}
use Rattle.examples.proofs.agreement.told_equal.Goals as goal

pub returns : goal.returns
returns g c = (
  λ told. same_of_equal g.F.Valued g.F.PartialEq.eq g.met.F.Field.eq_law c.args.one.now c.args.other.now (sym c.eq.ensures ∙ told),
  λ same. c.eq.ensures
      ∙ equal_of_same g.F.Valued g.F.PartialEq.eq g.met.F.Field.eq_law c.args.one.now c.args.other.now
      c.width-whole.ensures.whole c.width-other_whole.ensures.whole same,
)
