use Rattle.p3_dft.proofs.Lemmas.{ℕ, ◌^◌, length, refl, sym, ap, ◌∙◌, inverse_root, inverse_undoes, values_of, coefficients_of_row, room_of}
use Rattle.p3_dft.proofs.Lemmas.{coefficients_of_parts, entries_written, half_powers_fit, root_powers}
use Rattle.p3_field.proofs.Rings
use Rattle.p3_dft.proofs.radix_2_bowers.interpolate_unscaled_to_reversed.Goals as goal

pub inverse-inverse-requires : goal.inverse-inverse-requires
inverse-inverse-requires g c =
    let field = g.F.Valued in
    let root = inverse_root field.ring (λ (n : ℕ). field.value (g.F.TwoAdicField.generator n)) c.args.log_h in (
      root,
      ap (λ x. field.ring.mul x root) c.two_adic_generator-generator.ensures
          ∙ (inverse_undoes field.ring g.met.F.TwoAdicField.roots_law).undo c.args.log_h c.requires.within,
    )

pub network_g_transposed-requires-clause-twiddles : goal.network_g_transposed-requires-clause-twiddles
network_g_transposed-requires-clause-twiddles g c =
    let field = g.F.Valued in
    let inverse = field.value c.inverse-inverse.result in
    let undone = ap (λ x. field.ring.mul x inverse) (sym c.two_adic_generator-generator.ensures) ∙ c.inverse-inverse.ensures in
    root_powers field _ _ _ _ _ _ (ap field.value c.ONE.ensures ∙ g.met.F.Field.one_law)
    (Rings.inverse_unique field.ring _ inverse _ undone
    ((inverse_undoes field.ring g.met.F.TwoAdicField.roots_law).undo c.args.log_h c.requires.within))
    c.as_slice.ensures.value c.in_ok-twiddles.ensures.powers

pub returns-in_err-twiddles-clause-room : goal.returns-in_err-twiddles-clause-room
returns-in_err-twiddles-clause-room g c =
    room_of _ c.from_residual.result _ _ _ c.from_residual.ensures
    (half_powers_fit c.args.log_h c.requires.rows.whole.width c.requires.rows.height) c.in_err-twiddles.ensures.room

pub returns-clause-same : goal.returns-clause-same
returns-clause-same g c =
    entries_written c.args.mat.now _ c.network_g_transposed.new.values refl refl
    (c.network_g_transposed.auto.values ∙ ap length c.values_mut.ensures.values)

pub returns-clause-coefficients : goal.returns-clause-coefficients
returns-clause-coefficients g c =
    coefficients_of_parts g.F.Valued g.F.TwoAdicField.generator g.met.F.TwoAdicField.roots_law c.args.mat.now _
    c.values_mut.result.now c.network_g_transposed.new.values _ c.width-width.result c.args.log_h c.args.log_h c.requires.within refl
    c.requires.rows.whole c.requires.rows.height c.values_mut.ensures.values c.width-width.ensures.width
    c.network_g_transposed.auto.values refl refl c.network_g_transposed.ensures.values

pub returns-then-log_h-eq0-clause-coefficients : goal.returns-then-log_h-eq0-clause-coefficients
returns-then-log_h-eq0-clause-coefficients g c d quotient =
    coefficients_of_row g.F.Valued.ring g.met.F.TwoAdicField.roots_law (values_of g.F.Valued c.args.mat.now) d c.args.log_h c.requires.within
    (c.requires.rows.height ∙ ap (λ n. 2 ^ n) c.if-log_h-eq0.true) c.requires.rows.height quotient
