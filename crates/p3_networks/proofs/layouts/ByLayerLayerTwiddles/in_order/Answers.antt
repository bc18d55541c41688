use Rattle.p3_networks.proofs.Lemmas.{suc, ◌^◌, ◌≤◌, arith, lit≤, pow-le-pow_right, two-pow-succ, one_shl}
use Rattle.p3_networks.proofs.layouts.ByLayerLayerTwiddles.in_order.Goals as goal

pub overflow_mul-result : goal.overflow_mul-result
overflow_mul-result g c =
    let l = c.args.l in
    let rise : 2 ^ suc l ≤ 2 ^ 63 = pow-le-pow_right {n = 2} (lit≤ tt) c.requires.in_table.0 in
    rw (one_shl l 64 (omega (arith, c.requires.in_table.0))) (omega (arith, rise, two-pow-succ l))
