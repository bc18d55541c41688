use Rattle.p3_field.proofs.fields.Field.square.Goals as goal

pub returns : goal.returns
returns g c = g.met.Self.Field.mul_law _ _ _ c.mul.ensures
