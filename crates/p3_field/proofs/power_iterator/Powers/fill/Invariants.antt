use Rattle.p3_field.proofs.Lemmas.{ℕ, ◌≡◌, ◌<◌, get_or, power}
use Rattle.p3_field.proofs.power_iterator.Powers.fill.Given as goal

-- the first i items are there, and the next one is at hand
abbrev pub invariant-loop-i : goal.invariant-loop-i
invariant-loop-i g l =
    record {
      next : g.F.Valued.value l.current ≡ g.F.Valued.ring.mul (g.F.Valued.value l.initial.current) (power g.F.Valued.ring (g.F.Valued.value l.base) l.i);
      filled : (j : ℕ) → j < l.i
          → g.F.Valued.value (get_or l.to j g.F.Valued.zero)
          ≡ g.F.Valued.ring.mul (g.F.Valued.value l.initial.current)
          (power g.F.Valued.ring (g.F.Valued.value l.base) j);
    }
