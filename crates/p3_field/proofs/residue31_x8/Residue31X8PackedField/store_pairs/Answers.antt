use Rattle.p3_field.proofs.Lemmas.{◌≡◌, sym, ◌∙◌, arith, get_or, refl, lit<, residue-eq, place_inside, first_written, number_of_lane, second_written}
use borrow.Author.Rules.{Below-set}
use Rattle.p3_field.proofs.residue31_x8.Residue31X8PackedField.store_pairs.Goals as goal

pub returns-clause-first : goal.returns-clause-first
returns-clause-first g c i below =
    let lanes = c.args.self.lanes in
    residue-eq _ _ (first_written c.args.to.now (λ i x. x.number ≡ get_or lanes i 0) c.element.result
    c.element-3.result c.element-5.result c.element-7.result c.element-9.result c.element-11.result
    c.element-13.result c.element-15.result c.element-2.result c.element-4.result c.element-6.result
    c.element-8.result c.element-10.result c.element-12.result c.element-14.result c.element-16.result _ c.requires
    c.element.ensures c.element-3.ensures c.element-5.ensures c.element-7.ensures c.element-9.ensures
    c.element-11.ensures c.element-13.ensures c.element-15.ensures i below
    ∙ sym (number_of_lane c.args.to.now (λ x. x.number) (λ n h. record { number = n; of = _; below = h })
    (λ n h. refl) _ lanes c.args.self.below i (omega (arith, below, c.args.self.eight))))

pub returns-clause-second : goal.returns-clause-second
returns-clause-second g c i below =
    let lanes = c.args.second.lanes in
    residue-eq _ _ (second_written c.args.to.now (λ i x. x.number ≡ get_or lanes i 0) c.element.result
    c.element-3.result c.element-5.result c.element-7.result c.element-9.result c.element-11.result
    c.element-13.result c.element-15.result c.element-2.result c.element-4.result c.element-6.result
    c.element-8.result c.element-10.result c.element-12.result c.element-14.result c.element-16.result _ c.requires
    c.element-2.ensures c.element-4.ensures c.element-6.ensures c.element-8.ensures c.element-10.ensures
    c.element-12.ensures c.element-14.ensures c.element-16.ensures i below
    ∙ sym (number_of_lane c.args.to.now (λ x. x.number) (λ n h. record { number = n; of = _; below = h })
    (λ n h. refl) _ lanes c.args.second.below i (omega (arith, below, c.args.second.eight))))

pub bounds-to-1 : goal.bounds-to-1
bounds-to-1 g c = Below-set _ _ _ _ _ (place_inside c.args.to.now 1 16 c.requires (lit< tt))

pub bounds-to-2 : goal.bounds-to-2
bounds-to-2 g c = Below-set _ _ _ _ _ (Below-set _ _ _ _ _ (place_inside c.args.to.now 2 16 c.requires (lit< tt)))

pub bounds-to-3 : goal.bounds-to-3
bounds-to-3 g c = Below-set _ _ _ _ _ (Below-set _ _ _ _ _ (Below-set _ _ _ _ _ (place_inside c.args.to.now 3 16 c.requires (lit< tt))))

pub bounds-to-4 : goal.bounds-to-4
bounds-to-4 g c = Below-set _ _ _ _ _ (Below-set _ _ _ _ _ (Below-set _ _ _ _ _ (Below-set _ _ _ _ _ (place_inside c.args.to.now 4 16 c.requires (lit< tt)))))

pub bounds-to-5 : goal.bounds-to-5
bounds-to-5 g c =
    Below-set _ _ _ _ _ (Below-set _ _ _ _ _ (Below-set _ _ _ _ _
    (Below-set _ _ _ _ _ (Below-set _ _ _ _ _ (place_inside c.args.to.now 5 16 c.requires (lit< tt))))))

pub bounds-to-6 : goal.bounds-to-6
bounds-to-6 g c =
    Below-set _ _ _ _ _ (Below-set _ _ _ _ _ (Below-set _ _ _ _ _ (Below-set _ _ _ _ _
    (Below-set _ _ _ _ _ (Below-set _ _ _ _ _ (place_inside c.args.to.now 6 16 c.requires (lit< tt)))))))

pub bounds-to-7 : goal.bounds-to-7
bounds-to-7 g c =
    Below-set _ _ _ _ _ (Below-set _ _ _ _ _ (Below-set _ _ _ _ _ (Below-set _ _ _ _ _ (Below-set _ _ _ _ _
    (Below-set _ _ _ _ _ (Below-set _ _ _ _ _ (place_inside c.args.to.now 7 16 c.requires (lit< tt))))))))

pub bounds-to-8 : goal.bounds-to-8
bounds-to-8 g c =
    Below-set _ _ _ _ _ (Below-set _ _ _ _ _ (Below-set _ _ _ _ _ (Below-set _ _ _ _ _ (Below-set _ _ _ _ _ (Below-set _
    _ _ _ _ (Below-set _ _ _ _ _ (Below-set _ _ _ _ _ (place_inside c.args.to.now 8 16 c.requires (lit< tt)))))))))

pub bounds-to-9 : goal.bounds-to-9
bounds-to-9 g c =
    Below-set _ _ _ _ _ (Below-set _ _ _ _ _ (Below-set _ _ _ _ _ (Below-set _ _ _ _ _ (Below-set _ _ _ _ _ (Below-set _
    _ _ _ _ (Below-set _ _ _ _ _
    (Below-set _ _ _ _ _ (Below-set _ _ _ _ _ (place_inside c.args.to.now 9 16 c.requires (lit< tt))))))))))

pub bounds-to-10 : goal.bounds-to-10
bounds-to-10 g c =
    Below-set _ _ _ _ _ (Below-set _ _ _ _ _ (Below-set _ _ _ _ _ (Below-set _ _ _ _ _ (Below-set _ _ _ _ _ (Below-set _
    _ _ _ _ (Below-set _ _ _ _ _ (Below-set _ _ _ _ _
    (Below-set _ _ _ _ _ (Below-set _ _ _ _ _ (place_inside c.args.to.now 10 16 c.requires (lit< tt)))))))))))

pub bounds-to-11 : goal.bounds-to-11
bounds-to-11 g c =
    Below-set _ _ _ _ _ (Below-set _ _ _ _ _ (Below-set _ _ _ _ _ (Below-set _ _ _ _ _ (Below-set _ _ _ _ _ (Below-set _
    _ _ _ _ (Below-set _ _ _ _ _ (Below-set _ _ _ _ _ (Below-set _ _ _ _ _
    (Below-set _ _ _ _ _ (Below-set _ _ _ _ _ (place_inside c.args.to.now 11 16 c.requires (lit< tt))))))))))))

pub bounds-to-12 : goal.bounds-to-12
bounds-to-12 g c =
    Below-set _ _ _ _ _ (Below-set _ _ _ _ _ (Below-set _ _ _ _ _ (Below-set _ _ _ _ _ (Below-set _ _ _ _ _ (Below-set _
    _ _ _ _ (Below-set _ _ _ _ _ (Below-set _ _ _ _ _ (Below-set _ _ _ _ _ (Below-set _ _ _ _ _ (Below-set _ _
    _ _ _ (Below-set _ _ _ _ _ (place_inside c.args.to.now 12 16 c.requires (lit< tt)))))))))))))

pub bounds-to-13 : goal.bounds-to-13
bounds-to-13 g c =
    Below-set _ _ _ _ _ (Below-set _ _ _ _ _ (Below-set _ _ _ _ _ (Below-set _ _ _ _ _ (Below-set _ _ _ _ _ (Below-set _
    _ _ _ _ (Below-set _ _ _ _ _ (Below-set _ _ _ _ _ (Below-set _ _ _ _ _ (Below-set _ _ _ _ _ (Below-set _ _
    _ _ _ (Below-set _ _ _ _ _
    (Below-set _ _ _ _ _ (place_inside c.args.to.now 13 16 c.requires (lit< tt))))))))))))))

pub bounds-to-14 : goal.bounds-to-14
bounds-to-14 g c =
    Below-set _ _ _ _ _ (Below-set _ _ _ _ _ (Below-set _ _ _ _ _ (Below-set _ _ _ _ _ (Below-set _ _ _ _ _ (Below-set _
    _ _ _ _ (Below-set _ _ _ _ _ (Below-set _ _ _ _ _ (Below-set _ _ _ _ _ (Below-set _ _ _ _ _ (Below-set _ _
    _ _ _ (Below-set _ _ _ _ _ (Below-set _ _ _ _ _
    (Below-set _ _ _ _ _ (place_inside c.args.to.now 14 16 c.requires (lit< tt)))))))))))))))

pub bounds-to-15 : goal.bounds-to-15
bounds-to-15 g c =
    Below-set _ _ _ _ _ (Below-set _ _ _ _ _ (Below-set _ _ _ _ _ (Below-set _ _ _ _ _ (Below-set _ _ _ _ _ (Below-set _
    _ _ _ _ (Below-set _ _ _ _ _ (Below-set _ _ _ _ _ (Below-set _ _ _ _ _ (Below-set _ _ _ _ _ (Below-set _ _
    _ _ _ (Below-set _ _ _ _ _ (Below-set _ _ _ _ _ (Below-set _ _ _ _ _
    (Below-set _ _ _ _ _ (place_inside c.args.to.now 15 16 c.requires (lit< tt))))))))))))))))
