use Rattle.p3_networks.proofs.Lemmas.{◌+◌, ◌*◌, sym, ap, ◌∙◌, first_shift, slot_number, slot_of_shifted, fewer_roots}
use Rattle.p3_networks.proofs.radix_2_small_batch.slots.OtherSlotsChunkWork.on_chunk.Goals as goal

pub overflow_add-slot : goal.overflow_add-slot
overflow_add-slot g c = slot_number c.requires.0

pub copy_shifted-requires-clause-source : goal.copy_shifted-requires-clause-source
copy_shifted-requires-clause-source g c =
    let it = c.args.self.now in
    c.requires.0.source ∙ c.requires.0.rows.size ∙ ap (λ n. n * it.width) (sym (first_shift it.log_h it.added_bits c.requires.0.fits_u64))

pub copy_shifted-requires-clause-size : goal.copy_shifted-requires-clause-size
copy_shifted-requires-clause-size g c =
    let it = c.args.self.now in
    c.requires.0.rows.size ∙ ap (λ n. n * it.width) (sym (first_shift it.log_h it.added_bits c.requires.0.fits_u64))

pub returns-clause-chunk : goal.returns-clause-chunk
returns-clause-chunk g c =
    let field = g.F.Valued in
    let it = c.args.self.now in
    let k = it.log_h in
    let a = it.added_bits in
    slot_of_shifted field g.F.TwoAdicField.generator k a it.width (c.args.number + 1) (field.value it.shift) _ _ it.coefficients.now
    c.copy_shifted.new.values c.evaluate_to_reversed.new.values
    (fewer_roots field.ring (k + a) _ c.requires.0.within g.met.F.TwoAdicField.roots_law) c.slot_shift-shift.ensures
    (first_shift k a c.requires.0.fits_u64) c.copy_shifted.ensures.values c.evaluate_to_reversed.ensures.values
