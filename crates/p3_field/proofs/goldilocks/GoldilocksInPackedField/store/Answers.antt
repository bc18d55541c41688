use Rattle.p3_field.proofs.Lemmas.{ap, map, slice_set-single}
use Rattle.p3_field.proofs.goldilocks.GoldilocksInPackedField.store.Goals as goal

pub returns : goal.returns
returns g c = ap (map _) (slice_set-single c.args.to.now c.args.self c.requires)
