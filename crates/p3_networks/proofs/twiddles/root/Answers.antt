use Rattle.p3_networks.proofs.Lemmas.{◌≡◌, ℕ, sym, ap, ◌∙◌, inverse_root, inverse_undoes, root_of}
use Rattle.p3_field.proofs.Rings
use Rattle.p3_networks.proofs.twiddles.root.Goals as goal

pub inverse-requires : goal.inverse-requires
inverse-requires g c =
    let field = g.F.Valued in
    let gen = λ (n : ℕ). field.value (g.F.TwoAdicField.generator n) in (
      inverse_root field.ring gen c.args.bits,
      ap (λ x. field.ring.mul x (inverse_root field.ring gen c.args.bits)) c.two_adic_generator-generator.ensures
          ∙ (inverse_undoes field.ring g.met.F.TwoAdicField.roots_law).undo c.args.bits c.requires,
    )

pub returns-then-inverse : goal.returns-then-inverse
returns-then-inverse g c =
    let field = g.F.Valued in
    let gen = λ (n : ℕ). field.value (g.F.TwoAdicField.generator n) in
    let undone : field.ring.mul (gen c.args.bits) (field.value c.inverse.result) ≡ field.ring.one =
    ap (λ x. field.ring.mul x (field.value c.inverse.result)) (sym c.two_adic_generator-generator.ensures) ∙ c.inverse.ensures in
    Rings.inverse_unique field.ring (gen c.args.bits) (field.value c.inverse.result) (inverse_root field.ring gen c.args.bits) undone
    ((inverse_undoes field.ring g.met.F.TwoAdicField.roots_law).undo c.args.bits c.requires)
    ∙ ap (λ b. root_of field g.F.TwoAdicField.generator b c.args.bits) (sym c.if-inverse.true)
