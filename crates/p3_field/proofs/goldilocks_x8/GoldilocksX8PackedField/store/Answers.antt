use Rattle.p3_field.proofs.Lemmas.{refl, eight_lanes}
use Rattle.p3_field.proofs.goldilocks_x8.GoldilocksX8PackedField.store.Goals as goal

pub returns : goal.returns
returns c =
    eight_lanes _ _ (λ n h. refl) c.args.to.now c.element.result c.element-2.result c.element-3.result
    c.element-4.result c.element-5.result c.element-6.result c.element-7.result c.element-8.result
    c.args.self.lanes c.args.self.below c.requires c.args.self.eight c.element.ensures c.element-2.ensures
    c.element-3.ensures c.element-4.ensures c.element-5.ensures c.element-6.ensures c.element-7.ensures
    c.element-8.ensures
