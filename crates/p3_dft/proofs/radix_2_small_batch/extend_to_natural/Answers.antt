use Rattle.p3_dft.proofs.Lemmas.{ℕ, List, [], ◌≡◌, ◌*◌, ◌/◌, ◌%◌, ◌+◌, ◌-◌, ◌^◌, ◌<◌, ◌≤◌, ◌++◌, length, get_or, replicate, drop, refl, sym, ◌∙◌, ap, ap₂}
use Rattle.p3_dft.proofs.Lemmas.{arith, mod-eq_of_lt, mul-div_cancel, length-replicate, power, rev, RowMajor, height, poly, values_of_weighed}
use Rattle.p3_dft.proofs.Lemmas.{extension_counted, written, room_of, extended_entries, fewer_entries, powers_fit}
use Rattle.p3_dft.proofs.radix_2_small_batch.extend_to_natural.Given as given
use Rattle.p3_dft.proofs.radix_2_small_batch.extend_to_natural.Goals.{In_ok-extend_by_zeros}
use Rattle.p3_dft.proofs.radix_2_small_batch.extend_to_natural.Goals as goal

-- as many zeros as the extension has entries
zeros_length : {T : Type 0} (z : T) (old xs given values : List T) (len h w v k a : ℕ) → old ≡ []
    → xs ≡ old ++ replicate (len * 2 ^ a % 2 ^ 64) z → len ≡ length given → given ≡ values → h * w ≡ length values
    → h ≡ 2 ^ k → v ≡ w
    → h * w * 2 ^ a < 2 ^ 64 → length xs ≡ 2 ^ (k + a) * v
zeros_length z old xs given values len h w v k a none is len_is given_is full high width room =
    let entries : len * 2 ^ a ≡ h * w * 2 ^ a = ap (λ n. n * 2 ^ a) (len_is ∙ ap length given_is ∙ sym full) in
    ap length (is ∙ ap (λ ys. ys ++ replicate (len * 2 ^ a % 2 ^ 64) z) none)
    ∙ length-replicate (len * 2 ^ a % 2 ^ 64) z ∙ mod-eq_of_lt (omega (arith, entries, room)) ∙ entries
    ∙ sym (extended_entries k a high refl width)

full_rows : {T : Type 0} (xs ys : List T) (w h : ℕ) → xs ≡ ys → 1 ≤ w → length ys ≡ h * w → length xs / w * w ≡ length xs
full_rows xs ys w h same wide full =
    let size : length xs ≡ h * w = ap length same ∙ full in
    ap (λ n. n / w * w) size ∙ ap (λ n. n * w) (mul-div_cancel h wide) ∙ sym size

-- the vector has as many zeros as the extension has entries
entries : (g : given.Over) (c : In_ok-extend_by_zeros g)
    → length c.extend_by_zeros.new.values.items ≡ 2 ^ (c.args.log_h + c.args.added_bits) * c.width-width.result
entries g c =
    zeros_length g.F.Valued.zero c.new-values.result.items c.extend_by_zeros.new.values.items c.values.result.now
    c.args.mat.values _ _ c.args.mat.width c.width-width.result c.args.log_h c.args.added_bits
    c.new-values.ensures.items c.in_ok-extend_by_zeros.ensures.ok refl c.values.ensures.values c.requires.rows.whole.full
    c.requires.rows.height c.width-width.ensures.width c.requires.size

pub extending_network-requires-clause-size : goal.extending_network-requires-clause-size
extending_network-requires-clause-size g c =
    ap length c.as_mut_slice.ensures.value ∙ entries g (goal.at.extending_network-requires-clause-size g c).In_ok-extend_by_zeros

pub new-requires-clause-full : goal.new-requires-clause-full
new-requires-clause-full g c =
    let w = c.width-width.result in
    let rows = 2 ^ (c.args.log_h + c.args.added_bits) in
    let items = c.extend_by_zeros.new.values.items in
    let size = entries g (goal.at.new-requires-clause-full g c).In_ok-extend_by_zeros in
    let len : length c.extending_network.new.values ≡ length items = c.extending_network.auto.values ∙ ap length c.as_mut_slice.ensures.value in
    full_rows _ c.extending_network.new.values w rows
    (written c.extend_by_zeros.new.values.len c.extending_network.new.values
    (drop (length c.extending_network.new.values) items) (omega (arith, len, c.extend_by_zeros.new.values.ok.0)))
    (omega (arith, c.requires.rows.whole.width, c.width-width.ensures.width)) (len ∙ size)

pub extending_network-requires-clause-twiddles : goal.extending_network-requires-clause-twiddles
extending_network-requires-clause-twiddles g c = c.requires.twiddles

added-sub : (k a : ℕ) → k + a - a ≡ k
added-sub k a = omega arith

pub extending_network-requires-clause-rows : goal.extending_network-requires-clause-rows
extending_network-requires-clause-rows g c =
    ap length c.values-2.ensures.values ∙ sym c.requires.rows.whole.full
    ∙ ap₂ (λ (h w : ℕ). h * w) (c.requires.rows.height ∙ ap (λ n. 2 ^ n) (sym (added-sub c.args.log_h c.args.added_bits)))
    (sym c.width-width.ensures.width)

pub extending_network-requires-clause-weights : goal.extending_network-requires-clause-weights
extending_network-requires-clause-weights g c =
    ap length c.as_slice.ensures.value ∙ c.in_ok-weights.ensures.powers.size
    ∙ ap (λ n. 2 ^ n) (sym (added-sub c.args.log_h c.args.added_bits))

pub returns-in_err-weights-clause-room : goal.returns-in_err-weights-clause-room
returns-in_err-weights-clause-room g c =
    let table = powers_fit c.args.log_h c.requires.rows.whole.width c.requires.rows.height in
    room_of _ c.from_residual.result _ _ _ c.from_residual.ensures
    (omega (arith, table, fewer_entries (height c.args.mat * c.args.mat.width) c.args.added_bits))
    c.in_err-weights.ensures.room

-- The vector of zeros has as many entries as the extension; the network writes into each the value of the weighted
-- coefficients at its point. The products are those of its layers, counted for each slot.
pub returns : goal.returns
returns g c =
    let field = g.F.Valued in
    let w = c.width-width.result in
    let k = c.args.log_h in
    let a = c.args.added_bits in
    let items = c.extend_by_zeros.new.values.items in
    let after = c.extending_network.new.values in
    let size = entries g (goal.at.returns g c).In_ok-extend_by_zeros in
    let len : length after ≡ length items = c.extending_network.auto.values ∙ ap length c.as_mut_slice.ensures.value in
    record {
      values =
          let wide : 1 ≤ w = omega (arith, c.requires.rows.whole.width, c.width-width.ensures.width) in
          let values_is = written c.extend_by_zeros.new.values.len after (drop (length after) items) (omega (arith, len, c.extend_by_zeros.new.values.ok.0)) in
          values_of_weighed field g.F.TwoAdicField.generator c.args.mat c.new.result after c.as_slice.result.now w k
          (k + a) (field.value c.args.scale) (field.value c.args.shift) c.requires.rows.height wide
          c.width-width.ensures.width
          (ap (λ (n : RowMajor g.row.F.Denot). n.width) c.new.ensures) (ap (λ (n : RowMajor g.row.F.Denot). n.values) c.new.ensures ∙ values_is) (len ∙ size)
          (λ b below. ap (λ xs. field.value (get_or xs b field.zero)) c.as_slice.ensures.value ∙ c.in_ok-weights.ensures.powers.entries b below)
          (λ i j below inside. c.extending_network.ensures.values i j below inside
          ∙ ap₂ (λ n xs. poly field.ring (2 ^ n) (λ q. field.ring.mul
          (field.value (get_or xs (rev n q * w + j) field.zero))
          (field.value (get_or c.as_slice.result.now (rev n q) field.zero)))
          (power field.ring (field.value (g.F.TwoAdicField.generator (k + a))) i))
          (added-sub k a) c.values-2.ensures.values);
      grows = c.extending_network.ensures.grows;
      cost =
          let taken : length c.as_mut_slice.result.now ≡ 2 ^ (k + a) * w = ap length c.as_mut_slice.ensures.value ∙ size in
          let same : w * (2 ^ a * (k * 2 ^ k / 2) + 2 ^ (k + a))
          ≡ c.args.mat.width * (2 ^ a * (k * 2 ^ k / 2) + 2 ^ (k + a)) =
          ap (λ n. n * (2 ^ a * (k * 2 ^ k / 2) + 2 ^ (k + a))) c.width-width.ensures.width in
          let made =
          extension_counted k a w (length c.as_mut_slice.result.now) c.args.products.now
          c.extending_network.new.products c.requires.nonzero taken c.extending_network.ensures.cost in
          omega (arith, made, same);
      room = tt;
    }
