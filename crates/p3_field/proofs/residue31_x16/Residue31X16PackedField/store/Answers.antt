use Rattle.p3_field.proofs.Lemmas.{refl, sym, joined_parts}
use Rattle.p3_field.proofs.residue31_x16.Residue31X16PackedField.store.Goals as goal

pub returns : goal.returns
returns g c =
    let low = c.halves.result.0 in
    let high = c.halves.result.1 in
    sym (joined_parts _ _ (λ n h. refl) low.lanes high.lanes c.args.self.lanes low.below high.below c.args.self.below (sym c.halves.ensures)
    _ c.store.new.to c.store-2.new.to refl (sym c.store.ensures) (sym c.store-2.ensures))
