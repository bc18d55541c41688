use Rattle.p3_networks.proofs.Lemmas.{◌≡◌, ℕ, ◌+◌, ◌*◌, ◌-◌, ◌^◌, ◌<◌, get_or, AreRoots, rev, RisesAtMost, AreLowTwiddles, low_row}
use Rattle.p3_networks.proofs.halves.low_network.Given as goal

abbrev pub invariant-loop-l : goal.invariant-loop-l
invariant-loop-l g l =
    let field = g.F.Valued in
    let k = l.fn.log_h in
    let w = l.fn.width in
    record {
      rows : (root : ℕ → field.Element) (s : field.Element) → AreRoots field.ring k root → AreLowTwiddles field root s k (g.T.LayerTwiddles.at l.fn.table)
          → (j r : ℕ) → j < w → r < 2 ^ k → field.value (get_or l.values (r * w + j) field.zero)
          ≡ low_row field.ring root s l.l (k - l.l) (λ q. field.value (get_or l.fn.values (rev k q * w + j) field.zero)) r;
      cost : RisesAtMost (1 * (l.l * (2 ^ (k - 1) * w))) l.fn.products l.products;
    }
