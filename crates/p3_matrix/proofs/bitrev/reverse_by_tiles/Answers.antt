use Rattle.p3_matrix.proofs.Lemmas.{◌≡◌, ◌+◌, ◌-◌, ◌*◌, ◌%◌, ◌^◌, ◌<◌, ◌⊎◌, inl, inr, length, refl, sym, ap, ◌∙◌, arith, one_shl, pow_pos, rev, rev_of_zero}
use Rattle.p3_matrix.proofs.Lemmas.{rev-lt, row_within, tile_order, digits, usize_size, chunk_lt, chunk_in_tile_order, mirror_not_after, partner_is}
use Rattle.p3_matrix.proofs.Lemmas.{partner_after, partner_not, chunks_apart, are_numbers, all_below, tile_done}
use Rattle.p3_matrix.proofs.HalfReversed.{rows_half_reversed_none, rows_half_reversed_more, rows_half_reversed_kept, rows_half_reversed_skipped}
use Rattle.p3_matrix.proofs.HalfReversed.{rows_half_reversed_all, rows_half_reversed_at}
use Rattle.p3_matrix.proofs.bitrev.reverse_by_tiles.Goals as goal
use Rattle.p3_matrix.proofs.bitrev.reverse_by_tiles.Goals.{then-tile-mirror-2, else-tile-mirror-2+else-first-far_first}
use Rattle.p3_matrix.proofs.bitrev.reverse_by_tiles.Goals.{then-tile-mirror-2-via-then-tile-mirror-2}
use Rattle.p3_matrix.proofs.bitrev.reverse_by_tiles.Goals.{then-tile-mirror-2-via-else-tile-mirror-2+then-first-far_first}
use Rattle.p3_matrix.proofs.bitrev.reverse_by_tiles.Goals.{then-tile-mirror+else-loop-first-test, else-tile-mirror}

pub loop-tile-init : goal.loop-tile-init
loop-tile-init g c = record {
  mirror = λ _. sym (rev_of_zero (c.args.bits - 2 * c.args.outer));
  below = pow_pos (c.args.bits - 2 * c.args.outer);
  half =
      rows_half_reversed_at c.args.width c.args.bits
      (tile_order (2 ^ (c.args.bits - 2 * c.args.outer)) (2 ^ c.args.outer)) c.args.values.now 0
      (0 * 2 ^ c.args.outer * 2 ^ c.args.outer) c.args.values.now (omega arith)
      (rows_half_reversed_none c.args.width c.args.bits (tile_order (2 ^ (c.args.bits - 2 * c.args.outer)) (2 ^ c.args.outer)) c.args.values.now);
}

pub loop-first-init : goal.loop-first-init
loop-first-init g c = record {
  half = rows_half_reversed_at c.args.width c.args.bits (tile_order (2 ^ (c.args.bits - 2 * c.args.outer)) (2 ^ c.args.outer)) c.args.values.now
      (c.loop-tile.tile * 2 ^ c.args.outer * 2 ^ c.args.outer)
      ((c.loop-tile.tile * 2 ^ c.args.outer + 0) * 2 ^ c.args.outer) c.loop-tile.values (omega arith)
      c.loop-tile.invariant.half;
}

pub loop-last-init : goal.loop-last-init
loop-last-init g c = record {
  half = rows_half_reversed_at c.args.width c.args.bits (tile_order (2 ^ (c.args.bits - 2 * c.args.outer)) (2 ^ c.args.outer)) c.args.values.now
      ((c.loop-tile.tile * 2 ^ c.args.outer + c.loop-first.first) * 2 ^ c.args.outer)
      ((c.loop-tile.tile * 2 ^ c.args.outer + c.loop-first.first) * 2 ^ c.args.outer + 0) c.loop-first.values
      (omega arith) c.loop-first.invariant.half;
}

pub chunk_number-near-requires-clause-fits_u64 : goal.chunk_number-near-requires-clause-fits_u64
chunk_number-near-requires-clause-fits_u64 g c =
    usize_size c.args.bits (c.args.bits - 2 * c.args.outer) c.args.outer c.requires.outer refl _ _
    (one_shl (c.args.bits - 2 * c.args.outer) 64 (omega arith)) (one_shl c.args.outer 64 (omega arith)) c.requires.bits

pub chunk_number-far-requires-clause-first : goal.chunk_number-far-requires-clause-first
chunk_number-far-requires-clause-first g c =
    omega (
      arith,
      c.reverse_bits_len-far_first.ensures,
      rev-lt c.args.outer c.loop-last.last,
      one_shl c.args.outer 64 (omega arith),
    )

pub chunk_number-far-requires-clause-last : goal.chunk_number-far-requires-clause-last
chunk_number-far-requires-clause-last g c =
    omega (
      arith,
      c.reverse_bits_len-far_last.ensures,
      rev-lt c.args.outer c.loop-first.first,
      one_shl c.args.outer 64 (omega arith),
    )

pub chunk_number-far-requires-clause-fits_u64 : goal.chunk_number-far-requires-clause-fits_u64
chunk_number-far-requires-clause-fits_u64 g c =
    usize_size c.args.bits (c.args.bits - 2 * c.args.outer) c.args.outer c.requires.outer refl _ _
    (one_shl (c.args.bits - 2 * c.args.outer) 64 (omega arith)) (one_shl c.args.outer 64 (omega arith)) c.requires.bits

pub overflow_mul-near : goal.overflow_mul-near
overflow_mul-near g c =
    let below =
    chunk_lt c.args.bits (c.args.bits - 2 * c.args.outer) c.args.outer c.requires.outer refl _ _
    (one_shl (c.args.bits - 2 * c.args.outer) 64 (omega arith)) (one_shl c.args.outer 64 (omega arith))
    c.chunk_number-near.result c.loop-first.first c.loop-tile.tile c.loop-last.last c.chunk_number-near.ensures
    c.loop-first-test.true c.loop-tile-test.true c.loop-last-test.true in
    omega (arith, row_within c.chunk_number-near.result (2 ^ c.args.bits) c.args.width (length c.args.values.now) below (sym c.requires.size))

pub overflow_mul-far : goal.overflow_mul-far
overflow_mul-far g c =
    let below = chunk_lt c.args.bits (c.args.bits - 2 * c.args.outer) c.args.outer c.requires.outer refl _ _
    (one_shl (c.args.bits - 2 * c.args.outer) 64 (omega arith)) (one_shl c.args.outer 64 (omega arith))
    c.chunk_number-far.result c.reverse_bits_len-far_first.result c.loop-tile.mirror
    c.reverse_bits_len-far_last.result c.chunk_number-far.ensures
    (omega (arith, c.reverse_bits_len-far_first.ensures, rev-lt c.args.outer c.loop-last.last, one_shl c.args.outer 64 (omega arith)))
    (omega (arith, c.loop-tile.invariant.below, one_shl (c.args.bits - 2 * c.args.outer) 64 (omega arith)))
    (omega (arith, c.reverse_bits_len-far_last.ensures, rev-lt c.args.outer c.loop-first.first, one_shl c.args.outer 64 (omega arith))) in
    omega (arith, row_within c.chunk_number-far.result (2 ^ c.args.bits) c.args.width (length c.args.values.now) below (sym c.requires.size))

pub exchange-requires-clause-apart : goal.exchange-requires-clause-apart
exchange-requires-clause-apart g c =
    let tile = c.loop-tile.invariant.mirror (omega (arith, one_shl (c.args.bits - 2 * c.args.outer) 64 (omega arith))) in
    let before : (c.loop-tile.tile < c.loop-tile.mirror) ⊎ (c.loop-first.first < c.reverse_bits_len-far_first.result) =
    elim c.then-tile-mirror-2.branch [
      | then-tile-mirror-2-via-then-tile-mirror-2 w ↦ inl w.if-tile-mirror-2.true
      | then-tile-mirror-2-via-else-tile-mirror-2+then-first-far_first w ↦ inr w.if-first-far_first.true
    ]
    in
    chunks_apart c.chunk_number-near.result c.chunk_number-far.result c.args.width
    (partner_not c.args.bits (c.args.bits - 2 * c.args.outer) c.args.outer c.requires.outer refl _ _
    (one_shl (c.args.bits - 2 * c.args.outer) 64 (omega arith)) (one_shl c.args.outer 64 (omega arith))
    c.chunk_number-near.result c.loop-first.first c.loop-tile.tile c.loop-last.last c.chunk_number-near.ensures
    c.loop-first-test.true c.loop-tile-test.true c.loop-last-test.true
    c.chunk_number-far.result c.reverse_bits_len-far_first.result c.loop-tile.mirror
    c.reverse_bits_len-far_last.result c.chunk_number-far.ensures c.reverse_bits_len-far_first.ensures tile
    c.reverse_bits_len-far_last.ensures c.if-tile-mirror.true before)

pub exchange-requires-clause-first : goal.exchange-requires-clause-first
exchange-requires-clause-first g c =
    let below =
    chunk_lt c.args.bits (c.args.bits - 2 * c.args.outer) c.args.outer c.requires.outer refl _ _
    (one_shl (c.args.bits - 2 * c.args.outer) 64 (omega arith)) (one_shl c.args.outer 64 (omega arith))
    c.chunk_number-near.result c.loop-first.first c.loop-tile.tile c.loop-last.last c.chunk_number-near.ensures
    c.loop-first-test.true c.loop-tile-test.true c.loop-last-test.true in
    omega (arith, row_within c.chunk_number-near.result (2 ^ c.args.bits) c.args.width (length c.args.values.now) below (sym c.requires.size))

pub exchange-requires-clause-second : goal.exchange-requires-clause-second
exchange-requires-clause-second g c =
    let below = chunk_lt c.args.bits (c.args.bits - 2 * c.args.outer) c.args.outer c.requires.outer refl _ _
    (one_shl (c.args.bits - 2 * c.args.outer) 64 (omega arith)) (one_shl c.args.outer 64 (omega arith))
    c.chunk_number-far.result c.reverse_bits_len-far_first.result c.loop-tile.mirror
    c.reverse_bits_len-far_last.result c.chunk_number-far.ensures
    (omega (arith, c.reverse_bits_len-far_first.ensures, rev-lt c.args.outer c.loop-last.last, one_shl c.args.outer 64 (omega arith)))
    (omega (arith, c.loop-tile.invariant.below, one_shl (c.args.bits - 2 * c.args.outer) 64 (omega arith)))
    (omega (arith, c.reverse_bits_len-far_last.ensures, rev-lt c.args.outer c.loop-first.first, one_shl c.args.outer 64 (omega arith))) in
    omega (arith, row_within c.chunk_number-far.result (2 ^ c.args.bits) c.args.width (length c.args.values.now) below (sym c.requires.size))

-- One more chunk in the order of tiles. Where its partner comes after it, the two are exchanged, and both are where
-- they belong (`rows_half_reversed_more`). Else it is its own partner or was exchanged with it before, and it stays
-- (`rows_half_reversed_kept`).
pub loop-last-preserved : goal.loop-last-preserved
loop-last-preserved g c =
    let n = c.args.bits in
    let k = c.args.outer in
    let m = n - 2 * k in
    let number = tile_order (2 ^ m) (2 ^ k) in
    let xs = c.args.values.now in
    let a = c.loop-first.first in
    let r = c.loop-tile.tile in
    let b = c.loop-last.last in
    let t = (r * 2 ^ k + a) * 2 ^ k + b in
    let ts = one_shl m 64 (omega arith) in
    let ss = one_shl k 64 (omega arith) in
    let apart = are_numbers n m k (digits n m k c.requires.outer refl _ _ ts ss) in
    let tile = c.loop-tile.invariant.mirror (omega (arith, ts)) in
    record {
      half =
          elim c.if-tile-mirror-2.branch [
            | then-tile-mirror-2 w ↦
                let before : (r < c.loop-tile.mirror) ⊎ (a < c.reverse_bits_len-far_first.result) =
                elim w.then-tile-mirror-2.branch [
                  | then-tile-mirror-2-via-then-tile-mirror-2 v ↦ inl v.if-tile-mirror-2.true
                  | then-tile-mirror-2-via-else-tile-mirror-2+then-first-far_first v ↦ inr v.if-first-far_first.true
                ]
                in
                rw w.values-is (rows_half_reversed_at c.args.width n number xs (t + 1) ((r * 2 ^ k + a) * 2 ^ k + (b + 1)) w.exchange.new.values (omega arith)
                (rows_half_reversed_more c.args.width n number xs w.chunk_number-near.result w.chunk_number-far.result
                t c.loop-last.values w.exchange.new.values apart
                (chunk_lt n m k c.requires.outer refl _ _ ts ss w.chunk_number-near.result a r b
                w.chunk_number-near.ensures c.loop-first-test.true c.loop-tile-test.true c.loop-last-test.true)
                (partner_is n m k c.requires.outer refl _ _ ts ss w.chunk_number-near.result a r b
                w.chunk_number-near.ensures c.loop-first-test.true c.loop-tile-test.true c.loop-last-test.true
                w.chunk_number-far.result c.reverse_bits_len-far_first.result c.loop-tile.mirror
                c.reverse_bits_len-far_last.result w.chunk_number-far.ensures c.reverse_bits_len-far_first.ensures
                tile c.reverse_bits_len-far_last.ensures)
                (chunk_in_tile_order n m k c.requires.outer refl _ _ ts ss w.chunk_number-near.result a r b
                w.chunk_number-near.ensures c.loop-first-test.true c.loop-tile-test.true c.loop-last-test.true)
                (partner_after n m k c.requires.outer refl _ _ ts ss w.chunk_number-near.result a r b
                w.chunk_number-near.ensures c.loop-first-test.true c.loop-tile-test.true c.loop-last-test.true
                w.chunk_number-far.result c.reverse_bits_len-far_first.result c.loop-tile.mirror
                c.reverse_bits_len-far_last.result w.chunk_number-far.ensures c.reverse_bits_len-far_first.ensures
                tile c.reverse_bits_len-far_last.ensures c.if-tile-mirror.true before)
                w.exchange.ensures c.loop-last.invariant.half))
            | else-tile-mirror-2+else-first-far_first w ↦
                let tiles = 1 * 2 ^ m % 2 ^ 64 in
                let side = 1 * 2 ^ k % 2 ^ 64 in
                let near = (a * tiles + r) * side + b in
                rw w.values-is (rows_half_reversed_at c.args.width n number xs (t + 1) ((r * 2 ^ k + a) * 2 ^ k + (b + 1)) c.loop-last.values (omega arith)
                (rows_half_reversed_kept c.args.width n number xs near (rev n near) t c.loop-last.values apart
                (chunk_lt n m k c.requires.outer refl tiles side ts ss near a r b refl c.loop-first-test.true c.loop-tile-test.true c.loop-last-test.true)
                refl
                (chunk_in_tile_order n m k c.requires.outer refl tiles side ts ss near a r b refl c.loop-first-test.true
                c.loop-tile-test.true c.loop-last-test.true)
                (mirror_not_after n m k c.requires.outer refl tiles side ts ss near a r b refl c.loop-first-test.true
                c.loop-tile-test.true c.loop-last-test.true
                (omega (arith, tile, w.if-tile-mirror-2.false)) (omega (arith, c.reverse_bits_len-far_first.ensures, w.if-first-far_first.false)))
                c.loop-last.invariant.half))
          ];
    }

pub loop-first-preserved : goal.loop-first-preserved
loop-first-preserved g c =
    let k = c.args.outer in
    let end : c.loop-last.last ≡ 2 ^ k = omega (arith, one_shl k 64 (omega arith)) in
    record {
      half = rows_half_reversed_at c.args.width c.args.bits (tile_order (2 ^ (c.args.bits - 2 * k)) (2 ^ k)) c.args.values.now
          ((c.loop-tile.tile * 2 ^ k + c.loop-first.first) * 2 ^ k + c.loop-last.last)
          ((c.loop-tile.tile * 2 ^ k + (c.loop-first.first + 1)) * 2 ^ k) c.loop-last.values
          (omega arith) c.loop-last.invariant.half;
    }

pub loop-tile-preserved : goal.loop-tile-preserved
loop-tile-preserved g c =
    let n = c.args.bits in
    let k = c.args.outer in
    let m = n - 2 * k in
    let number = tile_order (2 ^ m) (2 ^ k) in
    let xs = c.args.values.now in
    let r = c.loop-tile.tile in
    let ts = one_shl m 64 (omega arith) in
    let ss = one_shl k 64 (omega arith) in
    let below : r < 2 ^ m = omega (arith, ts) in
    let mirror = c.loop-tile.invariant.mirror below in
    record {
      mirror = λ b. c.next_reversed-mirror.ensures.next r b mirror;
      below = c.next_reversed-mirror.ensures.below;
      half =
          elim c.if-tile-mirror.branch [
            | then-tile-mirror+else-loop-first-test w ↦
                let end : w.loop-first.first ≡ 2 ^ k = omega (arith, ss) in
                rw w.values-is (rows_half_reversed_at c.args.width n number xs
                ((r * 2 ^ k + w.loop-first.first) * 2 ^ k) ((r + 1) * 2 ^ k * 2 ^ k) w.loop-first.values
                (ap (λ x. (r * 2 ^ k + x) * 2 ^ k) end ∙ omega arith) w.loop-first.invariant.half)
            | else-tile-mirror w ↦
                rw w.values-is (rows_half_reversed_skipped c.args.width n number xs (r * 2 ^ k * 2 ^ k)
                ((r + 1) * 2 ^ k * 2 ^ k) c.loop-tile.values (omega arith)
                (λ p l lo hi. tile_done n m k (digits n m k c.requires.outer refl _ _ ts ss) r p below
                (omega (arith, mirror, w.if-tile-mirror.false)) l lo hi) c.loop-tile.invariant.half)
          ];
    }

pub returns : goal.returns
returns g c =
    let n = c.args.bits in
    let k = c.args.outer in
    let m = n - 2 * k in
    let ts = one_shl m 64 (omega arith) in
    let ss = one_shl k 64 (omega arith) in
    let end : c.loop-tile.tile ≡ 2 ^ m = omega (arith, ts) in
    rows_half_reversed_all c.args.width n (tile_order (2 ^ m) (2 ^ k)) c.args.values.now (2 ^ m * 2 ^ k * 2 ^ k) c.loop-tile.values
    (λ p l. all_below n m k (digits n m k c.requires.outer refl _ _ ts ss) p l)
    (rows_half_reversed_at c.args.width n (tile_order (2 ^ m) (2 ^ k)) c.args.values.now
    (c.loop-tile.tile * 2 ^ k * 2 ^ k) (2 ^ m * 2 ^ k * 2 ^ k) c.loop-tile.values
    (ap (λ x. x * 2 ^ k * 2 ^ k) end) c.loop-tile.invariant.half)
