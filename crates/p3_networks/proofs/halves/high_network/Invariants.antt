use Rattle.p3_networks.proofs.Lemmas.{◌≡◌, ℕ, ◌+◌, ◌*◌, ◌-◌, ◌^◌, ◌<◌, ◌≤◌, get_or, AreRoots, rev, point, AreHighTwiddles, factor, scale_cost, high_row}
use Rattle.p3_networks.proofs.halves.high_network.Given as goal

abbrev pub invariant-loop-done : goal.invariant-loop-done
invariant-loop-done g l =
    let field = g.F.Valued in
    let k = l.fn.left in
    let w = l.fn.width in
    record {
      rows : (root : ℕ → field.Element) (s : field.Element) → AreRoots field.ring (l.fn.mid + k) root
          → AreHighTwiddles field root s l.fn.mid (l.fn.mid + k) (g.T.LayerTwiddles.at l.fn.table)
          → (j r : ℕ) → j < w → r < 2 ^ k → field.value (get_or l.values (r * w + j) field.zero)
          ≡ high_row field.ring root (point field.ring root (l.fn.mid + k) s (rev l.fn.mid l.fn.chunk)) l.done (k - l.done)
          (λ q. field.ring.mul (field.value (get_or l.fn.values (q * w + j) field.zero)) (factor field l.fn.scale)) r;
      grows : l.fn.products ≤ l.products;
      cost : l.products ≤ l.fn.products + scale_cost l.fn.scale * (2 ^ k * w) + 1 * (l.done * (2 ^ (k - 1) * w));
    }
