use Rattle.p3_networks.proofs.Lemmas.{◌≡◌, ◌+◌, ◌-◌, ◌^◌, ap, ◌∙◌, sym, arith, subst, inr, refl, inverse_roots, AreTwiddles, backward_root, block_powers}
use Rattle.p3_networks.proofs.Lemmas.{forward_root, half_power}
use Rattle.p3_networks.proofs.Tables.FromStart.{first_entries, powers_from_one}
use Rattle.p3_networks.proofs.root_tables.RootTables.make.Goals as goal

pub inverse_powers-requires-clause-powers : goal.inverse_powers-requires-clause-powers
inverse_powers-requires-clause-powers g c =
    let field = g.F.Valued in
    let n = c.args.log_h - 1 in
    let whole : c.args.log_h ≡ n + 1 = omega (arith, c.if-log_h-self.false) in
    subst (λ xs. AreTwiddles field (2 ^ n) (block_powers field (forward_root field g.F.TwoAdicField.generator) n) xs) (sym c.as_slice.ensures.value)
    (powers_from_one field (forward_root field g.F.TwoAdicField.generator) n (field.value c.ONE.result)
    (field.value c.two_adic_generator-generator.result) c.in_ok-forward.forward.items
    (ap field.value c.ONE.ensures ∙ g.met.F.Field.one_law) (c.two_adic_generator-generator.ensures ∙ ap
    (λ k. field.value (g.F.TwoAdicField.generator k)) whole) c.in_ok-forward.ensures.powers)

pub invariant_of-self : goal.invariant_of-self
invariant_of-self g c =
    let field = g.F.Valued in
    let n = c.args.log_h - 1 in
    let whole : c.args.log_h ≡ n + 1 = omega (arith, c.if-log_h-self.false) in
    let half = half_power c.args.log_h (λ e. absurd (omega (arith, e, whole))) in (
      c.in_ok-forward.ensures.powers.size ∙ sym half,
      c.in_ok-backward.ensures.powers.size ∙ sym half,
      first_entries field (forward_root field g.F.TwoAdicField.generator) g.met.F.TwoAdicField.roots_law c.args.log_h
          c.in_ok-forward.forward.items c.requires.within
          (powers_from_one field (forward_root field g.F.TwoAdicField.generator) n (field.value c.ONE.result)
          (field.value c.two_adic_generator-generator.result) c.in_ok-forward.forward.items
          (ap field.value c.ONE.ensures ∙ g.met.F.Field.one_law) (c.two_adic_generator-generator.ensures ∙ ap
          (λ k. field.value (g.F.TwoAdicField.generator k)) whole) c.in_ok-forward.ensures.powers),
      first_entries field (backward_root field g.F.TwoAdicField.generator)
          (inverse_roots field.ring g.met.F.TwoAdicField.roots_law) c.args.log_h c.in_ok-backward.backward.items
          c.requires.within
          c.in_ok-backward.ensures.powers,
    )

pub returns-clause-only : goal.returns-clause-only
returns-clause-only g c = inr refl
