use Rattle.p3_dft.proofs.Lemmas.{◌≡◌, ℕ, ◌^◌, ◌∙◌, subst, bit_reversal, height, IsQuotient, values_of, reversed_quotient}
use Rattle.p3_dft.proofs.radix_2_bowers.interpolate_to_reversed.Goals as goal

pub returns-clause-coefficients : goal.returns-clause-coefficients
returns-clause-coefficients g c =
    let field = g.F.Valued in
    let k = c.args.log_h in
    let multiples = values_of field c.interpolate_unscaled_to_reversed.new.mat in
    let divided = values_of field c.divide_rows.new.mat in
    let tall : height c.interpolate_unscaled_to_reversed.new.mat ≡ 2 ^ k =
    c.interpolate_unscaled_to_reversed.ensures.same.shape.0 ∙ c.requires.rows.height in
    c.in_ok-interpolate_unscaled_to_reversed.ensures.coefficients (bit_reversal k divided)
    (reversed_quotient field.ring k (2 ^ k) multiples divided tall
    (subst (λ (n : ℕ). IsQuotient field.ring n multiples divided) tall c.divide_rows.ensures.divided))
