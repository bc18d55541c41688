use Rattle.p3_networks.proofs.Lemmas.{◌+◌, ◌-◌, ◌^◌, ◌∙◌, rev, mid_of, rev-lt, slot_ends, slot_first, slot_lent, slot_starts, slot_number, coset_read}
use Rattle.p3_networks.proofs.Lemmas.{fewer_roots}
use Rattle.p3_networks.proofs.radix_2_dit_parallel.published_slots.OtherSlotsLendingWork.on_chunk.Goals as goal

pub overflow_add-slot : goal.overflow_add-slot
overflow_add-slot g c = slot_number c.requires.0

pub place_of_slot-requires-clause-in_table : goal.place_of_slot-requires-clause-in_table
place_of_slot-requires-clause-in_table g c =
    let a = c.args.self.now.added_bits in
    c.requires.1 (rev a (c.args.number + 1)) (rev-lt a (c.args.number + 1))

pub evaluate_reversed-requires-clause-table : goal.evaluate_reversed-requires-clause-table
evaluate_reversed-requires-clause-table g c =
    (coset_read g.F.Valued c.args.self.now.cosets.now c.args.self.now.log_h _ _ _ c.get-table.ensures c.place_of_slot.ensures).0

pub evaluate_reversed-requires-clause-numbers : goal.evaluate_reversed-requires-clause-numbers
evaluate_reversed-requires-clause-numbers g c = slot_ends c.requires.0

pub returns-clause-lent : goal.returns-clause-lent
returns-clause-lent g c =
    let field = g.F.Valued in
    let it = c.args.self.now in
    let k = it.log_h in
    let a = it.added_bits in
    slot_lent field g.F.TwoAdicField.generator k a it.width (field.value it.shift) (2 ^ (k - mid_of k)) (2 ^ mid_of k) (c.args.number + 1) _
    it.coefficients.now c.evaluate_reversed.new.values (fewer_roots field.ring (k + a) _ c.requires.0.within g.met.F.TwoAdicField.roots_law)
    (coset_read field it.cosets.now k _ _ _ c.get-table.ensures c.place_of_slot.ensures).1 g.C.BlockConsumer.step _ _ _ _ _
    (slot_starts c.requires.0 ∙ slot_first k c.args.number) c.evaluate_reversed.ensures.lent
