use Rattle.p3_field.proofs.Lemmas.{◌≡◌, sym, ◌∙◌, arith, get_or, refl, residue-eq, first_written, number_of_lane, second_written}
use Rattle.p3_field.proofs.goldilocks_x8.GoldilocksX8PackedField.store_pairs.Goals as goal

pub returns-clause-first : goal.returns-clause-first
returns-clause-first c i below =
    let lanes = c.args.self.lanes in
    residue-eq _ _ (first_written c.args.to.now (λ i x. x.number ≡ get_or lanes i 0) c.element.result
    c.element-3.result c.element-5.result c.element-7.result c.element-9.result c.element-11.result
    c.element-13.result c.element-15.result c.element-2.result c.element-4.result c.element-6.result
    c.element-8.result c.element-10.result c.element-12.result c.element-14.result c.element-16.result _ c.requires
    c.element.ensures c.element-3.ensures c.element-5.ensures c.element-7.ensures c.element-9.ensures
    c.element-11.ensures c.element-13.ensures c.element-15.ensures i below
    ∙ sym (number_of_lane c.args.to.now (λ x. x.number) (λ n h. record { number = n; of = _; below = h })
    (λ n h. refl) _ lanes c.args.self.below i (omega (arith, below, c.args.self.eight))))

pub returns-clause-second : goal.returns-clause-second
returns-clause-second c i below =
    let lanes = c.args.second.lanes in
    residue-eq _ _ (second_written c.args.to.now (λ i x. x.number ≡ get_or lanes i 0) c.element.result
    c.element-3.result c.element-5.result c.element-7.result c.element-9.result c.element-11.result
    c.element-13.result c.element-15.result c.element-2.result c.element-4.result c.element-6.result
    c.element-8.result c.element-10.result c.element-12.result c.element-14.result c.element-16.result _ c.requires
    c.element-2.ensures c.element-4.ensures c.element-6.ensures c.element-8.ensures c.element-10.ensures
    c.element-12.ensures c.element-14.ensures c.element-16.ensures i below
    ∙ sym (number_of_lane c.args.to.now (λ x. x.number) (λ n h. record { number = n; of = _; below = h })
    (λ n h. refl) _ lanes c.args.second.below i (omega (arith, below, c.args.second.eight))))
