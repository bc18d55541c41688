use Rattle.p3_dft.proofs.Lemmas.{refl, ◌+◌, ◌∙◌, arith, bit_reversal, values_of, image, coset_values, room_of, both_logs_fit, extended_entries, fewer_of_same}
use Rattle.p3_dft.proofs.radix_2_bowers.extend_to_natural.Goals as goal

pub evaluate_to_natural-requires-clause-within : goal.evaluate_to_natural-requires-clause-within
evaluate_to_natural-requires-clause-within g c = (both_logs_fit _ _ c.requires.fits c.requires.rows.height refl).2

pub returns-in_err-weigh_reversed_rows-clause-room : goal.returns-in_err-weigh_reversed_rows-clause-room
returns-in_err-weigh_reversed_rows-clause-room g c =
    room_of _ c.from_residual.result _ _ _ c.from_residual.ensures (fewer_of_same c.args.added_bits refl refl)
    c.in_err-weigh_reversed_rows.ensures.room

pub returns-in_err-evaluate_to_natural-clause-room : goal.returns-in_err-evaluate_to_natural-clause-room
returns-in_err-evaluate_to_natural-clause-room g c =
    let wide = c.in_ok-grown.ensures.width ∙ c.in_ok-weigh_reversed_rows.ensures.rows.width in
    room_of _ c.from_residual-in_err-evaluate_to_natural.result _ _ _ c.from_residual-in_err-evaluate_to_natural.ensures
    (omega (arith, extended_entries c.args.log_h c.args.added_bits c.requires.rows.height c.in_ok-grown.ensures.rows.height wide))
    c.in_err-evaluate_to_natural.ensures.room

pub returns-clause-values : goal.returns-clause-values
returns-clause-values g c =
    let field = g.F.Valued in
    let k = c.args.log_h in
    let s = field.value c.args.shift in
    let scaled = image (λ x. field.ring.mul x (field.value c.args.scale)) (bit_reversal k (values_of field c.args.mat)) in
    let out = values_of field c.evaluate_to_natural.new.mat in
    coset_values field.ring (λ n. field.value (g.F.TwoAdicField.generator n)) scaled
    (bit_reversal k (values_of field c.weigh_reversed_rows.new.mat)) (k + c.args.added_bits) s out
    c.in_ok-weigh_reversed_rows.ensures.rows
    (c.in_ok-grown.ensures.values field.ring.one out c.in_ok-evaluate_to_natural.ensures.values)
