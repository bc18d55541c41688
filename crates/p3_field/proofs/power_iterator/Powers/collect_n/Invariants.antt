use Rattle.p3_field.proofs.Lemmas.{ℕ, ◌≡◌, ◌<◌, ◌≤◌, vec_len, vec_capacity, get_or, power}
use Rattle.p3_field.proofs.power_iterator.Powers.collect_n.Given as goal

-- the first items are there, with room for the others, and the next one is at hand
abbrev pub invariant-loop-i : goal.invariant-loop-i
invariant-loop-i g l =
    record {
      long : vec_len l.powers ≡ l._i;
      room : l.n ≤ vec_capacity l.powers;
      next : g.F.Valued.value l.current ≡ g.F.Valued.ring.mul (g.F.Valued.value l.initial.current) (power g.F.Valued.ring (g.F.Valued.value l.base) l._i);
      filled : (j : ℕ) → j < l._i
          → g.F.Valued.value (get_or l.powers.items j g.F.Valued.zero)
          ≡ g.F.Valued.ring.mul (g.F.Valued.value l.initial.current)
          (power g.F.Valued.ring (g.F.Valued.value l.base) j);
    }
