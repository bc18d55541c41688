use Rattle.p3_field.proofs.Lemmas.{map-replicate, length-replicate}
use Rattle.p3_field.proofs.lanes.LanesPackedField.broadcast.Goals as goal

pub returns : goal.returns
returns g c = map-replicate g.F.Valued.value g.row.N c.args.scalar

pub invariant_of-result : goal.invariant_of-result
invariant_of-result g c = record { long = length-replicate g.row.N _ }
