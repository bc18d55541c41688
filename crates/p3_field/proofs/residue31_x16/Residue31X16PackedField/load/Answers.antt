use Rattle.p3_field.proofs.Lemmas.{refl, joined_parts}
use Rattle.p3_field.proofs.residue31_x16.Residue31X16PackedField.load.Goals as goal

pub returns : goal.returns
returns g c =
    let low = c.load.result in
    let high = c.load-2.result in
    joined_parts _ _ (λ n h. refl) low.lanes high.lanes c.joined.result.lanes low.below high.below c.joined.result.below c.joined.ensures
    c.args.from.now _ _ c.split_at.ensures.by_index.0 c.load.ensures c.load-2.ensures
