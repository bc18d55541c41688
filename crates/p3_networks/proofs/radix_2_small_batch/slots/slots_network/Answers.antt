use Rattle.p3_networks.proofs.Lemmas.{◌≡◌, ℕ, ◌+◌, ◌*◌, ◌-◌, ◌/◌, ◌≤◌, ◌^◌, length, get_or, sym, ap, ◌∙◌, arith, rev, point, poly, forward_root, block_within}
use Rattle.p3_networks.proofs.Lemmas.{first_shift, second_shift, first_coset, is_slot, of_front, other_rows, others_whole, rows_of_slots, slot_of_shifted}
use Rattle.p3_networks.proofs.Lemmas.{slot_size, slots_counted, fewer_roots}
use Rattle.p3_networks.proofs.radix_2_small_batch.slots.slots_network.Goals as goal

pub on_each_chunk-requires-clause-whole : goal.on_each_chunk-requires-clause-whole
on_each_chunk-requires-clause-whole g c =
    others_whole (length c.args.values.now) c.args.log_h c.args.added_bits c.args.width _ c.requires.fits_u64 c.requires.size
    c.split_at_mut-coefficients.ensures.back_len

pub on_each_chunk-requires-clause-accepts : goal.on_each_chunk-requires-clause-accepts
on_each_chunk-requires-clause-accepts g c n below = (
  is_slot _ c.args.log_h c.args.added_bits c.args.width _ _ n c.requires.width c.requires.within c.requires.fits_u64 c.requires.size
      c.split_at_mut-coefficients.ensures.front_len below,
  c.requires.below,
  c.requires.piece,
  c.requires.twiddles,
)

pub shift_values-requires : goal.shift_values-requires
shift_values-requires g c =
    c.split_at_mut-coefficients.ensures.front_len
    ∙ slot_size (length c.args.values.now) c.args.log_h c.args.added_bits c.args.width c.requires.fits_u64 c.requires.size
    ∙ ap (λ n. n * c.args.width) (sym (first_shift c.args.log_h c.args.added_bits c.requires.fits_u64))

pub evaluate_to_reversed-requires-clause-rows : goal.evaluate_to_reversed-requires-clause-rows
evaluate_to_reversed-requires-clause-rows g c = record {
  width = c.requires.width;
  fits_u64 = omega (arith, c.requires.fits_u64);
  size = c.shift_values.auto.values ∙ c.split_at_mut-coefficients.ensures.front_len
      ∙ slot_size (length c.args.values.now) c.args.log_h c.args.added_bits c.args.width c.requires.fits_u64 c.requires.size;
}

-- The first slot and the others hold the values of the polynomials whose coefficients are the front of what stood in the values.
pub returns-clause-values : goal.returns-clause-values
returns-clause-values g c r j below inside =
    let field = g.F.Valued in
    let gen = forward_root field g.F.TwoAdicField.generator in
    let k = c.args.log_h in
    let a = c.args.added_bits in
    let w = c.args.width in
    let s = field.value c.args.shift in
    let coefficients = c.split_at_mut-coefficients.result.0.now in
    let front = c.evaluate_to_reversed.new.values in
    let is = slot_size (length c.args.values.now) k a w c.requires.fits_u64 c.requires.size in
    let size : length coefficients ≡ 2 ^ k * w = c.split_at_mut-coefficients.ensures.front_len ∙ is in
    let roots = fewer_roots field.ring (k + a) _ c.requires.within g.met.F.TwoAdicField.roots_law in
    let entry = λ (r j : ℕ). poly field.ring (2 ^ k) (λ u. field.value (get_or coefficients (u * w + j) field.zero))
    (point field.ring gen (k + a) s (rev (k + a) r)) in
    rows_of_slots field.value field.zero k a w front c.on_each_chunk.new.values entry (c.evaluate_to_reversed.auto.values ∙ c.shift_values.auto.values ∙ size)
    (slot_of_shifted field g.F.TwoAdicField.generator k a w 0 s s _ coefficients c.shift_values.new.values front roots
    (first_coset field.ring gen (k + a) a s) (first_shift k a c.requires.fits_u64) c.shift_values.ensures.values c.evaluate_to_reversed.ensures.values)
    (other_rows field.value field.zero k w _ _ c.on_each_chunk.new.values entry is
    (λ p t j near. let count = second_shift k a c.requires.fits_u64 in
    c.on_each_chunk.ensures.chunks p (omega (arith, block_within p (2 ^ k) t (2 ^ a - 1) near, count)) t j))
    r j below inside
    ∙ of_front field k w j (λ u. u) _ coefficients c.split_at_mut-coefficients.result.1.now c.args.values.now
    c.split_at_mut-coefficients.ensures.value size (λ u l. l) inside

pub returns-clause-cost : goal.returns-clause-cost
returns-clause-cost g c =
    let k = c.args.log_h in
    let a = c.args.added_bits in
    let turn = c.args.width * (k * 2 ^ k / 2) + 2 ^ k * c.args.width in
    let rows = ap (λ n. n * c.args.width) (first_shift k a c.requires.fits_u64) in
    let first : c.evaluate_to_reversed.new.products ≤ c.on_each_chunk.new.products + turn =
    omega (arith, c.shift_values.ensures.cost, rows, c.evaluate_to_reversed.ensures.cost.cost) in
    slots_counted a _ turn _ _ _ (second_shift k a c.requires.fits_u64) c.on_each_chunk.ensures.cost.cost first
