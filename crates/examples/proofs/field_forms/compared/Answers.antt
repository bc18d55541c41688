use Rattle.std.proofs.Common.{sym, ◌∙◌}
use Rattle.p3_field.specs.FieldLaws.{order_of_values}
use Rattle.examples.proofs.field_forms.compared.Goals as goal

pub returns : goal.returns
returns g c = λ x y first second.
    order_of_values g.F.Valued.value g.F.PartialEq.eq g.F.Ord.cmp g.met.F.Ord.total g.met.F.Ord.matches_eq
    g.met.F.Field.eq_law x y c.args.a c.args.b first second
    ∙ sym c.cmp.ensures
