use Rattle.p3_networks.proofs.Lemmas.{◌≡◌, ℕ, ◌+◌, ◌<◌, ◌≤◌, get_or, power}
use Rattle.p3_networks.proofs.shifts.scale_each.Given as goal

-- the entries below i are multiplied, the others are as they were, and the next factor is at hand
abbrev pub invariant-loop-i : goal.invariant-loop-i
invariant-loop-i g l =
    let field = g.F.Valued in
    record {
      next : field.value l.factor ≡ field.ring.mul (field.value l.fn.first) (power field.ring (field.value l.fn.base) l.i);
      done : (k : ℕ) → k < l.i
          → field.value (get_or l.values k field.zero)
          ≡ field.ring.mul (field.value (get_or l.fn.values k field.zero))
          (field.ring.mul (field.value l.fn.first) (power field.ring (field.value l.fn.base) k));
      rest : (k : ℕ) → l.i ≤ k → get_or l.values k field.zero ≡ get_or l.fn.values k field.zero;
      count : l.products ≡ l.fn.products + l.i;
    }
