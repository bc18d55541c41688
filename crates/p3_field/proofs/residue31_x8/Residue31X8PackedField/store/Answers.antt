use Rattle.p3_field.proofs.Lemmas.{refl, lit<, place_inside, eight_lanes}
use borrow.Author.Rules.{Below-set}
use Rattle.p3_field.proofs.residue31_x8.Residue31X8PackedField.store.Goals as goal

pub returns : goal.returns
returns g c =
    eight_lanes _ _ (λ n h. refl) c.args.to.now c.element.result c.element-2.result c.element-3.result
    c.element-4.result c.element-5.result c.element-6.result c.element-7.result c.element-8.result
    c.args.self.lanes c.args.self.below c.requires c.args.self.eight c.element.ensures c.element-2.ensures c.element-3.ensures c.element-4.ensures
    c.element-5.ensures c.element-6.ensures c.element-7.ensures c.element-8.ensures

pub bounds-to-1 : goal.bounds-to-1
bounds-to-1 g c = Below-set _ _ _ _ _ (place_inside c.args.to.now 1 8 c.requires (lit< tt))

pub bounds-to-2 : goal.bounds-to-2
bounds-to-2 g c = Below-set _ _ _ _ _ (Below-set _ _ _ _ _ (place_inside c.args.to.now 2 8 c.requires (lit< tt)))

pub bounds-to-3 : goal.bounds-to-3
bounds-to-3 g c = Below-set _ _ _ _ _ (Below-set _ _ _ _ _ (Below-set _ _ _ _ _ (place_inside c.args.to.now 3 8 c.requires (lit< tt))))

pub bounds-to-4 : goal.bounds-to-4
bounds-to-4 g c = Below-set _ _ _ _ _ (Below-set _ _ _ _ _ (Below-set _ _ _ _ _ (Below-set _ _ _ _ _ (place_inside c.args.to.now 4 8 c.requires (lit< tt)))))

pub bounds-to-5 : goal.bounds-to-5
bounds-to-5 g c =
    Below-set _ _ _ _ _ (Below-set _ _ _ _ _ (Below-set _ _ _ _ _
    (Below-set _ _ _ _ _ (Below-set _ _ _ _ _ (place_inside c.args.to.now 5 8 c.requires (lit< tt))))))

pub bounds-to-6 : goal.bounds-to-6
bounds-to-6 g c =
    Below-set _ _ _ _ _ (Below-set _ _ _ _ _ (Below-set _ _ _ _ _ (Below-set _ _ _ _ _
    (Below-set _ _ _ _ _ (Below-set _ _ _ _ _ (place_inside c.args.to.now 6 8 c.requires (lit< tt)))))))

pub bounds-to-7 : goal.bounds-to-7
bounds-to-7 g c =
    Below-set _ _ _ _ _ (Below-set _ _ _ _ _ (Below-set _ _ _ _ _ (Below-set _ _ _ _ _ (Below-set _ _ _ _ _
    (Below-set _ _ _ _ _ (Below-set _ _ _ _ _ (place_inside c.args.to.now 7 8 c.requires (lit< tt))))))))
