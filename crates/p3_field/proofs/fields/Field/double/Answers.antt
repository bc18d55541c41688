use Rattle.p3_field.proofs.fields.Field.double.Goals as goal

pub returns : goal.returns
returns g c = g.met.Self.Field.add_law _ _ _ c.add.ensures
