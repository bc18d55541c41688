use Rattle.std.proofs.Common.{◌*◌, length, ap, arith}
use Rattle.p3_matrix.proofs.scale.scale_slice_oop.Goals as goal

pub scale_packs_oop-requires-2-clause-whole : goal.scale_packs_oop-requires-2-clause-whole
scale_packs_oop-requires-2-clause-whole g c =
    let n = length c.split_at.result.1.now in
    (n, omega (arith, ap (λ m. n * m) g.met.F.Packable.one_lane_law))
