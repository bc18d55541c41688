use Rattle.p3_field.proofs.Lemmas.{◌≡◌, ◌+◌, ◌*◌, ap, ◌∙◌, arith, get_or, refl, get_or_default, residue-eq, by_place}
use Rattle.p3_field.proofs.residue31_x8.Residue31X8PackedField.load_pairs.Goals as goal

pub returns-clause-first : goal.returns-clause-first
returns-clause-first g c i below =
    let from = c.args.from.now in
    residue-eq _ _ (by_place from (λ i x. x.number ≡ (get_or from (2 * i) c.index-from-0.result).number) _ _ _ _ _ _ _ _ _
    (ap (λ x. x.number) (get_or_default from 0 _ _ (omega (arith, c.requires))))
    (ap (λ x. x.number) (get_or_default from 2 _ _ (omega (arith, c.requires))))
    (ap (λ x. x.number) (get_or_default from 4 _ _ (omega (arith, c.requires))))
    (ap (λ x. x.number) (get_or_default from 6 _ _ (omega (arith, c.requires))))
    (ap (λ x. x.number) (get_or_default from 8 _ _ (omega (arith, c.requires))))
    (ap (λ x. x.number) (get_or_default from 10 _ _ (omega (arith, c.requires))))
    (ap (λ x. x.number) (get_or_default from 12 _ _ (omega (arith, c.requires))))
    (ap (λ x. x.number) (get_or_default from 14 _ _ (omega (arith, c.requires))))
    i below ∙ ap (λ x. x.number) (get_or_default from (2 * i) _ _ (omega (arith, below, c.requires))))

pub returns-clause-second : goal.returns-clause-second
returns-clause-second g c i below =
    let from = c.args.from.now in
    residue-eq _ _ (by_place from (λ i x. x.number ≡ (get_or from (2 * i + 1) c.index-from-0.result).number) _ _ _ _ _ _ _ _ _
    (ap (λ x. x.number) (get_or_default from 1 _ _ (omega (arith, c.requires))))
    (ap (λ x. x.number) (get_or_default from 3 _ _ (omega (arith, c.requires))))
    (ap (λ x. x.number) (get_or_default from 5 _ _ (omega (arith, c.requires))))
    (ap (λ x. x.number) (get_or_default from 7 _ _ (omega (arith, c.requires))))
    (ap (λ x. x.number) (get_or_default from 9 _ _ (omega (arith, c.requires))))
    (ap (λ x. x.number) (get_or_default from 11 _ _ (omega (arith, c.requires))))
    (ap (λ x. x.number) (get_or_default from 13 _ _ (omega (arith, c.requires))))
    (ap (λ x. x.number) (get_or_default from 15 _ _ (omega (arith, c.requires))))
    i below ∙ ap (λ x. x.number) (get_or_default from (2 * i + 1) _ _ (omega (arith, below, c.requires))))

pub invariant_of-result : goal.invariant_of-result
invariant_of-result g c = record {
  below = (
    (get_or c.args.from.now 0 c.index-from-0.result).below,
    (
      (get_or c.args.from.now 2 c.index-from-2.result).below,
      (
        (get_or c.args.from.now 4 c.index-from-4.result).below,
        (
          (get_or c.args.from.now 6 c.index-from-6.result).below,
          (
            (get_or c.args.from.now 8 c.index-from-8.result).below,
            (
              (get_or c.args.from.now 10 c.index-from-10.result).below,
              (
                (get_or c.args.from.now 12 c.index-from-12.result).below,
                ((get_or c.args.from.now 14 c.index-from-14.result).below, tt),
              ),
            ),
          ),
        ),
      ),
    ),
  );
  eight = refl;
}

pub invariant_of-result-2 : goal.invariant_of-result-2
invariant_of-result-2 g c = record {
  below = (
    (get_or c.args.from.now 1 c.index-from-1.result).below,
    (
      (get_or c.args.from.now 3 c.index-from-3.result).below,
      (
        (get_or c.args.from.now 5 c.index-from-5.result).below,
        (
          (get_or c.args.from.now 7 c.index-from-7.result).below,
          (
            (get_or c.args.from.now 9 c.index-from-9.result).below,
            (
              (get_or c.args.from.now 11 c.index-from-11.result).below,
              (
                (get_or c.args.from.now 13 c.index-from-13.result).below,
                ((get_or c.args.from.now 15 c.index-from-15.result).below, tt),
              ),
            ),
          ),
        ),
      ),
    ),
  );
  eight = refl;
}
