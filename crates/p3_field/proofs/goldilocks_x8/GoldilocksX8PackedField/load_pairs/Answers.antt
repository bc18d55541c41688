use Rattle.p3_field.proofs.Lemmas.{◌≡◌, ◌+◌, ◌*◌, ap, ◌∙◌, arith, get_or, get_or_default, residue-eq, by_place}
use Rattle.p3_field.proofs.goldilocks_x8.GoldilocksX8PackedField.load_pairs.Goals as goal

pub returns-clause-first : goal.returns-clause-first
returns-clause-first c i below =
    let from = c.args.from.now in
    residue-eq _ _ (by_place from (λ i x. x.number ≡ (get_or from (2 * i) c.index-from-0.result).number) _ _ _ _ _ _ _ _ _
    (ap (λ x. x.number) (get_or_default from 0 _ _ (omega (arith, c.requires))))
    (ap (λ x. x.number) (get_or_default from 2 _ _ (omega (arith, c.requires))))
    (ap (λ x. x.number) (get_or_default from 4 _ _ (omega (arith, c.requires))))
    (ap (λ x. x.number) (get_or_default from 6 _ _ (omega (arith, c.requires))))
    (ap (λ x. x.number) (get_or_default from 8 _ _ (omega (arith, c.requires))))
    (ap (λ x. x.number) (get_or_default from 10 _ _ (omega (arith, c.requires))))
    (ap (λ x. x.number) (get_or_default from 12 _ _ (omega (arith, c.requires))))
    (ap (λ x. x.number) (get_or_default from 14 _ _ (omega (arith, c.requires))))
    i below ∙ ap (λ x. x.number) (get_or_default from (2 * i) _ _ (omega (arith, below, c.requires))))

pub returns-clause-second : goal.returns-clause-second
returns-clause-second c i below =
    let from = c.args.from.now in
    residue-eq _ _ (by_place from (λ i x. x.number ≡ (get_or from (2 * i + 1) c.index-from-0.result).number) _ _ _ _ _ _ _ _ _
    (ap (λ x. x.number) (get_or_default from 1 _ _ (omega (arith, c.requires))))
    (ap (λ x. x.number) (get_or_default from 3 _ _ (omega (arith, c.requires))))
    (ap (λ x. x.number) (get_or_default from 5 _ _ (omega (arith, c.requires))))
    (ap (λ x. x.number) (get_or_default from 7 _ _ (omega (arith, c.requires))))
    (ap (λ x. x.number) (get_or_default from 9 _ _ (omega (arith, c.requires))))
    (ap (λ x. x.number) (get_or_default from 11 _ _ (omega (arith, c.requires))))
    (ap (λ x. x.number) (get_or_default from 13 _ _ (omega (arith, c.requires))))
    (ap (λ x. x.number) (get_or_default from 15 _ _ (omega (arith, c.requires))))
    i below ∙ ap (λ x. x.number) (get_or_default from (2 * i + 1) _ _ (omega (arith, below, c.requires))))
