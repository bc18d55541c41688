use Rattle.p3_field.proofs.Lemmas.{◌∙◌, sym, map-map, same_numbers, eight_elements}
use Rattle.p3_field.proofs.residue31_x8.Residue31X8PackedField.load.Goals as goal

pub returns : goal.returns
returns g c = same_numbers _ _ (eight_elements _ c.args.from.now _ _ _ _ _ _ _ _ c.requires ∙ sym (map-map _ _ c.args.from.now))
