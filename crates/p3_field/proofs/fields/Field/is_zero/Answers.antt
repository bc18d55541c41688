use Rattle.std.proofs.Common.{ap, sym, subst, ◌∙◌, IsTrue}
use Rattle.p3_field.proofs.fields.Field.is_zero.Goals as goal

pub returns : goal.returns
returns g c =
    let same = g.met.Self.Field.eq_law c.args.self.now c.ZERO.result in
    let zero = ap g.Self.Valued.value c.ZERO.ensures ∙ g.met.Self.Field.zero_law in
    ((λ yes. same.0 (subst IsTrue c.eq.ensures yes) ∙ zero), (λ is. subst IsTrue (sym c.eq.ensures) (same.1 (is ∙ sym zero))))
