use Rattle.p3_field.proofs.Lemmas.{◌∙◌, sym, map-map, eight_elements, same_numbers}
use Rattle.p3_field.proofs.goldilocks_x8.GoldilocksX8PackedField.load.Goals as goal

pub returns : goal.returns
returns c = same_numbers _ _ (eight_elements _ c.args.from.now _ _ _ _ _ _ _ _ c.requires ∙ sym (map-map _ _ c.args.from.now))
