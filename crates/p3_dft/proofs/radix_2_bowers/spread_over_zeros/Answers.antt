use Rattle.p3_dft.proofs.Lemmas.{◌≡◌, ℕ, ◌+◌, ◌*◌, ◌-◌, ◌^◌, ◌≤◌, refl, sym, ap, ◌∙◌, subst, arith, pow-add, pow_pos, bit_reversal, IsValues, values_of, height}
use Rattle.p3_dft.proofs.Lemmas.{both_logs_fit, output_log_small, output_size}
use Rattle.p3_dft.proofs.NetworkG.{none_spread, one_spread, places_there, values_still}
use Rattle.p3_dft.proofs.radix_2_bowers.spread_over_zeros.Goals as goal

pub pad_rows-requires-clause-bits : goal.pad_rows-requires-clause-bits
pad_rows-requires-clause-bits g c = let small = output_log_small _ _ _ _ c.requires.fits in omega (arith, small)

pub pad_rows-requires-clause-size : goal.pad_rows-requires-clause-size
pad_rows-requires-clause-size g c = output_size _ _ _ _ c.requires.fits

pub overflow_shl-row : goal.overflow_shl-row
overflow_shl-row g c = let small = output_log_small _ _ _ _ c.requires.fits in omega (arith, small)

pub loop-row-init : goal.loop-row-init
loop-row-init g c = record {
  some = omega (arith, c.height-height.ensures.height, c.requires.height, pow_pos c.args.log_h);
  spread = rw c.height-height.ensures.height (none_spread _ _ c.args.mat _ c.height-height.ensures.whole c.in_ok-mat.ensures.padded);
}

pub exchange_rows-requires : goal.exchange_rows-requires
exchange_rows-requires g c =
    let there =
    places_there g.F.Valued.zero c.args.added_bits c.args.mat (c.loop-row.row - 1) c.loop-row.mat c.requires.fits
    (omega (arith, c.height-height.ensures.height, c.loop-row.auto.row, c.loop-row.invariant.some)) c.loop-row.invariant.spread.tall in
    record { i_in_bounds = there.0; j_in_bounds = there.1 }

pub loop-row-preserved : goal.loop-row-preserved
loop-row-preserved g c =
    let z = g.F.Valued.zero in
    let n = c.loop-row.row in
    let within : n ≤ height c.args.mat = omega (arith, c.height-height.ensures.height, c.loop-row.auto.row) in
    let place =
    (places_there z c.args.added_bits c.args.mat (n - 1) c.loop-row.mat c.requires.fits
    (omega (arith, within, c.loop-row.invariant.some)) c.loop-row.invariant.spread.tall).2 in
    record {
      some = omega (arith, c.loop-row-test.true);
      spread = one_spread z c.args.added_bits c.args.mat n _ c.loop-row.mat c.exchange_rows.new.mat c.if-added_bits-eq0.false
          c.loop-row-test.true within place c.exchange_rows.ensures.shape c.exchange_rows.ensures.size
          (c.exchange_rows.ensures.rows z) c.loop-row.invariant.spread;
    }

pub returns-clause-rows : goal.returns-clause-rows
returns-clause-rows g c =
    let k = c.args.log_h in
    let a = c.args.added_bits in
    record {
      whole = c.loop-row.invariant.spread.whole;
      height = c.loop-row.invariant.spread.tall ∙ ap (λ h. h * 2 ^ a) c.requires.height ∙ sym (pow-add 2 k a);
      fits_u64 = (both_logs_fit _ _ c.requires.fits c.requires.height refl).3;
    }

pub returns-clause-values : goal.returns-clause-values
returns-clause-values g c s v given =
    values_still g.F.Valued (λ n. g.F.Valued.value (g.F.TwoAdicField.generator n)) c.args.log_h s v
    (ap g.F.Valued.value (sym g.met.F.Field.same_zero) ∙ g.met.F.Field.zero_law) c.requires.height
    (omega (arith, c.loop-row-test.false, c.loop-row.invariant.some)) c.loop-row.invariant.spread given

pub returns-then-added_bits-eq0-clause-rows : goal.returns-then-added_bits-eq0-clause-rows
returns-then-added_bits-eq0-clause-rows g c =
    let same : c.args.log_h ≡ c.args.log_h + c.args.added_bits = omega (arith, c.if-added_bits-eq0.true) in
    record {
      whole = c.height-height.ensures.whole;
      height = c.requires.height ∙ ap (λ k. 2 ^ k) same;
      fits_u64 = (both_logs_fit _ _ c.requires.fits c.requires.height refl).3;
    }

pub returns-then-added_bits-eq0-clause-values : goal.returns-then-added_bits-eq0-clause-values
returns-then-added_bits-eq0-clause-values g c s v given =
    let field = g.F.Valued in
    let n = c.args.log_h + c.args.added_bits in
    let same : n ≡ c.args.log_h = omega (arith, c.if-added_bits-eq0.true) in
    subst (λ (k : ℕ). IsValues field.ring (λ i. field.value (g.F.TwoAdicField.generator i))
    (bit_reversal k (values_of field c.args.mat)) n s v) same given
