use Rattle.std.proofs.Common.{◌<◌, sym, ap, ap₂, ◌∙◌, arith, subst}
use Rattle.p3_field.specs.Ring.{minus, power}
use Rattle.p3_networks.proofs.Layers.Sizes.{first_shift}
use Rattle.p3_interpolation.proofs.VanishingValues.{values_repeat}
use Rattle.p3_interpolation.proofs.vanishing.vanishing_values.Goals as goal

pub returns-clause-values : goal.returns-clause-values
returns-clause-values g c i j below =
    let f = g.F.Valued in
    let shifted = first_shift c.args.added_bits 0 (omega (arith, c.requires.size)) in
    c.in_ok-values.ensures.values i (subst (λ n. i < n) (sym shifted) below)
    ∙ ap₂ (λ x y. minus f.ring (f.ring.mul x (power f.ring y i)) f.ring.one) c.exp_power_of_2-first.ensures c.two_adic_generator-generator.ensures
    ∙ ap (λ x. minus f.ring x f.ring.one) (values_repeat f.ring g.met.F.TwoAdicField.roots_law c.args.log_height
    c.args.added_bits (f.value c.args.shift) i j c.requires.within)
