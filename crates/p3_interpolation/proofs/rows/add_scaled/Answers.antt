use Rattle.std.proofs.Common.{◌*◌, length, sym, ap, ◌∙◌, arith}
use Rattle.p3_matrix.proofs.RowsByPacks.{rows_in_parts}
use Rattle.p3_interpolation.proofs.rows.add_scaled.Goals as goal

pub add_scaled_packs-requires-2-clause-whole : goal.add_scaled_packs-requires-2-clause-whole
add_scaled_packs-requires-2-clause-whole g c =
    let n = length c.split_at_mut-packed_sums.result.1.now in
    (n, omega (arith, ap (λ m. n * m) g.met.F.Packable.one_lane_law))

pub returns-clause-sums : goal.returns-clause-sums
returns-clause-sums g c =
    let f = g.F.Valued in
    let op = λ (x y : f.Element). f.ring.add x (f.ring.mul y (f.value c.args.factor)) in
    let one = c.split_at_mut-packed_sums in
    let two = c.split_at in
    rows_in_parts f.value op c.args.sums.now c.args.row.now one.result.0.now one.result.1.now two.result.0.now
    two.result.1.now c.add_scaled_packs.new.sums c.add_scaled_packs-2.new.sums
    one.ensures.value two.ensures.by_index.0 (one.ensures.front_len ∙ sym two.ensures.front_len)
    c.add_scaled_packs.ensures.sums c.add_scaled_packs-2.ensures.sums
