use Rattle.p3_networks.proofs.Lemmas.{◌+◌, sym, ap, ap₂, ◌∙◌, power, rev, forward_root, point-mul}
use Rattle.p3_networks.proofs.radix_2_dit_parallel.coset_tables.slot_shift.Goals as goal

pub returns : goal.returns
returns g c =
    let field = g.F.Valued in
    let gen = forward_root field g.F.TwoAdicField.generator in
    g.met.F.Field.mul_law _ _ _ c.mul.ensures
    ∙ ap (field.ring.mul (field.value c.args.shift))
    (c.exp_u64.ensures ∙ ap₂ (power field.ring) c.two_adic_generator-root.ensures c.reverse_bits_len.ensures)
    ∙ sym (point-mul field.ring gen (c.args.log_h + c.args.added_bits) (field.value c.args.shift) (rev c.args.added_bits c.args.slot))
