use Rattle.p3_networks.proofs.Lemmas.{◌≡◌, suc, ◌*◌, ◌^◌, ◌≤◌, arith, lit≤, pow-le-pow_right, pow_pos}
use Rattle.p3_networks.proofs.groups.log_tile_rows.Goals as goal

pub returns-clause-least : goal.returns-clause-least
returns-clause-least c r below =
    let log = c.log2_strict_usize.result in
    let less : suc r ≤ log = omega (arith, below, c.min.ensures) in
    let rise : 2 ^ suc r ≤ 2 ^ log = pow-le-pow_right {n = 2} (lit≤ tt) less in
    let double : 2 ^ suc r ≡ 2 * 2 ^ r = omega arith in
    omega (arith, rise, double, pow_pos r, c.log2_strict_usize.ensures.power, c.next_power_of_two-rows.ensures.upper_bound)
