use Rattle.std.proofs.Common.{◌≡◌, ℕ, ◌<◌, ◌≤◌, get_or}
use Rattle.p3_field.specs.Ring.{minus}
use Rattle.p3_interpolation.proofs.barycentric.subtract_one.Given as goal

abbrev pub invariant-loop-i : goal.invariant-loop-i
invariant-loop-i g l =
    let f = g.F.Valued in
    record {
      done : (j : ℕ) → j < l.i → f.value (get_or l.elements j f.zero) ≡ minus f.ring (f.value (get_or l.fn.elements j f.zero)) f.ring.one;
      rest : (j : ℕ) → l.i ≤ j → get_or l.elements j f.zero ≡ get_or l.fn.elements j f.zero;
    }
