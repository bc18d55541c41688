use Rattle.p3_dft.proofs.Lemmas.{ℕ, ◌^◌, ◌≤◌, refl, ap, ◌∙◌, arith, length, inverse_root, inverse_roots, values_of, coefficients_of_parts, coefficients_of_row}
use Rattle.p3_dft.proofs.Lemmas.{enough_from_start, first_is_one, entries_written}
use Rattle.p3_dft.proofs.radix_2_small_batch.interpolate_unscaled_to_reversed.Goals as goal

pub returns-then-log_h-eq0-clause-coefficients : goal.returns-then-log_h-eq0-clause-coefficients
returns-then-log_h-eq0-clause-coefficients g c d quotient =
    coefficients_of_row g.F.Valued.ring g.met.F.TwoAdicField.roots_law (values_of g.F.Valued c.args.mat.now) d
    c.args.log_h c.requires.within (c.requires.rows.height ∙ ap (λ n. 2 ^ n) c.if-log_h-eq0.true)
    c.requires.rows.height quotient

pub dit_network_to_reversed-requires-clause-first : goal.dit_network_to_reversed-requires-clause-first
dit_network_to_reversed-requires-clause-first g c =
    let some : 1 ≤ c.args.log_h = omega (arith, c.if-log_h-eq0.false) in
    first_is_one g.F.Valued (inverse_root g.F.Valued.ring (λ (n : ℕ). g.F.Valued.value (g.F.TwoAdicField.generator n)))
    c.args.log_h c.args.twiddles.now some c.requires.twiddles

pub dit_network_to_reversed-requires-clause-enough : goal.dit_network_to_reversed-requires-clause-enough
dit_network_to_reversed-requires-clause-enough g c =
    let some : 1 ≤ c.args.log_h = omega (arith, c.if-log_h-eq0.false) in
    enough_from_start g.F.Valued
    (inverse_root g.F.Valued.ring (λ (n : ℕ). g.F.Valued.value (g.F.TwoAdicField.generator n))) c.args.log_h
    c.args.twiddles.now some c.requires.twiddles

pub returns-clause-coefficients : goal.returns-clause-coefficients
returns-clause-coefficients g c d quotient =
    coefficients_of_parts g.F.Valued g.F.TwoAdicField.generator g.met.F.TwoAdicField.roots_law c.args.mat.now _
    c.values_mut.result.now c.dit_network_to_reversed.new.values _ c.width-width.result c.args.log_h c.args.log_h
    c.requires.within refl c.requires.rows.whole c.requires.rows.height c.values_mut.ensures.values
    c.width-width.ensures.width c.dit_network_to_reversed.auto.values refl refl
    (c.dit_network_to_reversed.ensures.values _
    (inverse_root g.F.Valued.ring (λ (n : ℕ). g.F.Valued.value (g.F.TwoAdicField.generator n)))
    (inverse_roots g.F.Valued.ring g.met.F.TwoAdicField.roots_law) c.requires.within c.requires.twiddles)
    d quotient

pub returns-clause-same : goal.returns-clause-same
returns-clause-same g c =
    entries_written c.args.mat.now _ c.dit_network_to_reversed.new.values refl refl
    (c.dit_network_to_reversed.auto.values ∙ ap length c.values_mut.ensures.values)
