use Rattle.p3_networks.proofs.Lemmas.{IsPermutation, ℕ, ◌≡◌, ◌+◌, ◌*◌, ◌-◌, ◌/◌, ◌++◌, ◌≤◌, ◌^◌, length, refl, sym, ap, ◌∙◌, subst, arith, le_of_eq, le_refl}
use Rattle.p3_networks.proofs.Lemmas.{mul-le-mul_right, IsPermutation-append_comm, pow_pos, MatchResult-weaker, rev, mid_of, rev-lt, extended_rows, slot_blocks}
use Rattle.p3_networks.proofs.Lemmas.{rises_joined, rises_within, second_shift, blocks_all, cells_whole, first_ends, front_told, others_told, refused_in_first}
use Rattle.p3_networks.proofs.Lemmas.{refused_in_others, slot_lent, is_slot, others_long, others_whole, rows_of_slots, slot_size, run_joined, coset_read}
use Rattle.p3_networks.proofs.Lemmas.{fewer_roots}
use Rattle.p3_networks.proofs.Networks.SlotPlaces.{blocks_whole}
use Rattle.p3_networks.proofs.radix_2_dit_parallel.published_slots.extend_slots.Goals as goal

pub lend_each_chunk-requires-clause-whole : goal.lend_each_chunk-requires-clause-whole
lend_each_chunk-requires-clause-whole g c =
    others_whole (length c.args.values.now) c.args.log_h c.args.added_bits c.args.width _ c.requires.fits_u64 c.requires.size
    c.split_at_mut-coefficients.ensures.back_len

pub lend_each_chunk-requires-clause-blocks : goal.lend_each_chunk-requires-clause-blocks
lend_each_chunk-requires-clause-blocks g c =
    slot_size (length c.args.values.now) c.args.log_h c.args.added_bits c.args.width c.requires.fits_u64 c.requires.size
    ∙ cells_whole c.args.log_h c.args.width

pub lend_each_chunk-requires-clause-accepts : goal.lend_each_chunk-requires-clause-accepts
lend_each_chunk-requires-clause-accepts g c n below = (
  is_slot _ c.args.log_h c.args.added_bits c.args.width _ _ n c.requires.width c.requires.within c.requires.fits_u64 c.requires.size
      c.split_at_mut-coefficients.ensures.front_len below,
  c.requires.tables,
)

pub place_of_slot-found-requires-clause-in_table : goal.place_of_slot-found-requires-clause-in_table
place_of_slot-found-requires-clause-in_table g c = c.requires.tables (rev c.args.added_bits 0) (rev-lt c.args.added_bits 0)

pub evaluate_reversed-requires-clause-table : goal.evaluate_reversed-requires-clause-table
evaluate_reversed-requires-clause-table g c =
    (coset_read g.F.Valued c.args.cosets.now c.args.log_h _ _ _ c.get-table.ensures c.place_of_slot-found.ensures).0

pub evaluate_reversed-requires-clause-rows : goal.evaluate_reversed-requires-clause-rows
evaluate_reversed-requires-clause-rows g c = record {
  width = c.requires.width;
  fits_u64 = omega (arith, c.requires.fits_u64);
  size = c.split_at_mut-coefficients.ensures.front_len
      ∙ slot_size (length c.args.values.now) c.args.log_h c.args.added_bits c.args.width c.requires.fits_u64 c.requires.size;
}

pub evaluate_reversed-requires-clause-numbers : goal.evaluate_reversed-requires-clause-numbers
evaluate_reversed-requires-clause-numbers g c = first_ends c.args.log_h c.args.added_bits c.requires.fits_u64

-- A block of the slots behind the first one is refused: those before it were lent, and hold rows of the extension.
pub returns-in-Err : goal.returns-in-Err
returns-in-Err g c =
    let field = g.F.Valued in
    let k = c.args.log_h in
    let a = c.args.added_bits in
    let w = c.args.width in
    let s = field.value c.args.shift in
    let generator = g.F.TwoAdicField.generator in
    let coefficients = c.split_at_mut-coefficients.result.0.now in
    let is = slot_size (length c.args.values.now) k a w c.requires.fits_u64 c.requires.size in
    let shift = second_shift k a c.requires.fits_u64 in
    let powers : length c.args.values.now / 2 ^ a ≡ 2 ^ k * w = ap (λ x. length c.args.values.now / x) (sym shift) ∙ is in
    let (m, below, done, stopped) = rw shift at c.in-Err.ensures.lent in
    let rises = rw shift at c.lend_each_chunk.ensures.cost in
    let all = rises_within (2 ^ a - 1) (2 ^ a) (w * (k * 2 ^ k / 2)) _ _ (omega arith) rises in
    record {
      values = tt;
      published = tt;
      refused = refused_in_others field.value field.zero k a w (2 ^ (k - mid_of k)) (2 ^ mid_of k) c.requires.width (pow_pos (k - mid_of k)) (blocks_whole k)
          (extended_rows field generator k a w s c.args.values.now) refl refl c.lend_each_chunk.new.values
          (others_long _ _ k a w _ c.lend_each_chunk.auto.values c.requires.fits_u64 c.requires.size c.split_at_mut-coefficients.ensures.back_len)
          g.C.BlockConsumer.step m c.in-Err.refusal c.args.consumer.now c.lend_each_chunk.new.consumer below
          (others_told field generator k a w s c.args.values.now coefficients c.split_at_mut-coefficients.result.1.now
          c.split_at_mut-coefficients.ensures.value (c.split_at_mut-coefficients.ensures.front_len ∙ is) _ _ _ _ c.lend_each_chunk.new.values powers
          (blocks_whole k) done (le_refl _))
          stopped;
      grows = all.grows;
      cost = all.cost;
    }

-- All blocks of the slots behind the first one were lent. The first slot comes last: its blocks are lent too, or one of them is refused.
pub returns : goal.returns
returns g c =
    let field = g.F.Valued in
    let k = c.args.log_h in
    let a = c.args.added_bits in
    let w = c.args.width in
    let s = field.value c.args.shift in
    let b = 2 ^ (k - mid_of k) in
    let n = 2 ^ mid_of k in
    let generator = g.F.TwoAdicField.generator in
    let step = g.C.BlockConsumer.step in
    let values = c.args.values.now in
    let coefficients = c.split_at_mut-coefficients.result.0.now in
    let before = c.split_at_mut-coefficients.result.1.now in
    let split = c.split_at_mut-coefficients.ensures.value in
    let front = c.evaluate_reversed.new.values in
    let others = c.lend_each_chunk.new.values in
    let extended = extended_rows field generator k a w s values in
    let is = slot_size (length values) k a w c.requires.fits_u64 c.requires.size in
    let size : length coefficients ≡ 2 ^ k * w = c.split_at_mut-coefficients.ensures.front_len ∙ is in
    let front_size : length front ≡ 2 ^ k * w = c.evaluate_reversed.auto.values ∙ size in
    let shift = second_shift k a c.requires.fits_u64 in
    let long = others_long _ _ k a w _ c.lend_each_chunk.auto.values c.requires.fits_u64 c.requires.size c.split_at_mut-coefficients.ensures.back_len in
    let next : 2 ^ a - 1 + 1 ≡ 2 ^ a = omega (arith, pow_pos a) in
    let powers : length values / 2 ^ a ≡ 2 ^ k * w = ap (λ x. length values / x) (sym shift) ∙ is in
    let (done, run) = rw shift at c.in_default.ensures.lent in
    let roots = fewer_roots field.ring (k + a) _ c.requires.within g.met.F.TwoAdicField.roots_law in
    let lent =
    slot_lent field generator k a w s b n 0 _ coefficients front roots (coset_read field c.args.cosets.now k _ _ _ c.get-table.ensures
    c.place_of_slot-found.ensures).1 step 0 0 _ _ _ refl c.evaluate_reversed.ensures.lent in
    let all_rows : (2 ^ a - 1) * 2 ^ k ≡ (2 ^ a - 1) * n * b = ap (λ x. (2 ^ a - 1) * x) (sym (blocks_whole k)) ∙ omega arith in
    let late = λ (m : ℕ) (few : m ≤ (2 ^ a - 1) * n * b).
    others_told field generator k a w s values coefficients before split size m _ _ _ others powers (blocks_whole k) done few in
    let own = front_told field generator k a w s values coefficients before split size in
    let whole = blocks_all (2 ^ a - 1) k a w b n front others (blocks_whole k) next front_size (le_of_eq (sym long)) in
    let made = rises_joined (2 ^ a - 1) (w * (k * 2 ^ k / 2)) _ _ _ _ refl (rw shift at c.lend_each_chunk.ensures.cost) c.evaluate_reversed.ensures.cost in
    let all = rises_within (2 ^ a - 1 + 1) (2 ^ a) (w * (k * 2 ^ k / 2)) _ _ (le_of_eq next) made in
    record {
      values = MatchResult-weaker c.evaluate_reversed.result lent
          (λ _ given.
          rows_of_slots field.value field.zero k a w front others extended.entry front_size
          (λ t j below inside. own (n * b) front given.0 t j (omega (arith, below, blocks_whole k)) below inside)
          (late ((2 ^ a - 1) * 2 ^ k) (le_of_eq all_rows)))
          (λ _ _. tt);
      published = MatchResult-weaker c.evaluate_reversed.result lent
          (λ _ given. (
            slot_blocks (2 ^ k) b w others ((2 ^ a - 1) * n) ++ slot_blocks 0 b w front n,
            subst (λ xs. IsPermutation xs (slot_blocks (2 ^ k) b w others ((2 ^ a - 1) * n) ++ slot_blocks 0 b w front n)) whole
                (IsPermutation-append_comm (slot_blocks 0 b w front n) (slot_blocks (2 ^ k) b w others ((2 ^ a - 1) * n))),
            run_joined step _ _ c.args.consumer.now c.lend_each_chunk.new.consumer c.evaluate_reversed.new.consumer run given.1,
          ))
          (λ _ _. tt);
      refused = MatchResult-weaker c.evaluate_reversed.result lent
          (λ _ _. tt)
          (λ refusal given.
          let (m, within, rows, stopped) = given in
          let few : (m + 1) * b ≤ n * b = mul-le-mul_right b (let l : m + 1 ≤ n = omega (arith, within) in l) in
          refused_in_first field.value field.zero k a w b n c.requires.width (pow_pos (k - mid_of k)) (blocks_whole k) extended refl refl others long
          step m refusal c.args.consumer.now c.lend_each_chunk.new.consumer c.evaluate_reversed.new.consumer front front_size within
          (late ((2 ^ a - 1) * n * b) (le_refl _))
          (λ r j below inside. own ((m + 1) * b) front rows r j below (omega (arith, below, few, blocks_whole k)) inside)
          run stopped);
      grows = all.grows;
      cost = all.cost;
    }
