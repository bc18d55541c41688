use Rattle.p3_networks.proofs.Lemmas.{◌≡◌, ℕ, ◌+◌, ◌-◌, ◌*◌, ◌<◌, ◌≤◌, get_or, power}
use Rattle.p3_networks.proofs.tiles.multiples_by_doubling.Given as goal

abbrev pub invariant-loop-done : goal.invariant-loop-done
invariant-loop-done g l =
    let field = g.F.Valued in
    record {
      nonzero : 1 ≤ l.done;
      within : l.done ≤ l.fn.count;
      factor : l.done < l.fn.count → field.value l.factor ≡ power field.ring (field.value l.fn.step) l.done;
      values : (t j : ℕ) → t < l.done → j < l.width
          → field.value (get_or l.values (t * l.width + j) field.zero)
          ≡ field.ring.mul (field.value (get_or l.fn.row j field.zero)) (field.ring.mul (field.value l.fn.first) (power field.ring (field.value l.fn.step) t));
      grows : l.fn.products ≤ l.products;
      cost : l.products ≤ l.fn.products + l.done * l.width;
    }

abbrev pub decreases-loop-done : goal.decreases-loop-done
decreases-loop-done g l = l.fn.count - l.done
