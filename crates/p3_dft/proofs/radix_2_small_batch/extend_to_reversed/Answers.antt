use Rattle.p3_dft.proofs.Lemmas.{length, sym, ap, ◌∙◌, refl, values_of_network, entries_written}
use Rattle.p3_dft.proofs.radix_2_small_batch.extend_to_reversed.Goals as goal

pub returns-clause-values : goal.returns-clause-values
returns-clause-values g c upper whole high over_zeros =
    values_of_network g.F.Valued g.F.TwoAdicField.generator upper c.args.mat.now c.values_mut.result.now c.args.log_h
    c.args.added_bits c.width-width.result (g.F.Valued.value c.args.shift)
    (λ q. q) (λ q below. below) (sym c.width-width.ensures.width) c.values_mut.ensures.values whole high over_zeros c.slots_network.new.values _
    (c.slots_network.auto.values ∙ ap length c.values_mut.ensures.values) c.requires.rows.height c.slots_network.ensures.values

pub returns-clause-same : goal.returns-clause-same
returns-clause-same g c =
    entries_written c.args.mat.now _ c.slots_network.new.values refl refl
    (c.slots_network.auto.values ∙ ap length c.values_mut.ensures.values)
