use Rattle.std.proofs.Common.{◌*◌, length, ap, arith}
use Rattle.p3_matrix.proofs.scale.scale_slice_in_place.Goals as goal

pub scale_packs-requires-clause-whole : goal.scale_packs-requires-clause-whole
scale_packs-requires-clause-whole g c =
    let n = length c.args.values.now in
    (n, omega (arith, ap (λ m. n * m) g.met.F.Packable.one_lane_law))

pub scale_packs-requires-3-clause-whole : goal.scale_packs-requires-3-clause-whole
scale_packs-requires-3-clause-whole g c =
    let n = length c.split_at_mut-packed.result.1.now in
    (n, omega (arith, ap (λ m. n * m) g.met.F.Packable.one_lane_law))
