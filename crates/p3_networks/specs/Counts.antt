-- What the counter of multiplications does in a call.
use Rattle.std.specs.Prelude.{ℕ, ◌+◌, ◌≤◌}

-- it does not fall, and rises by at most n
pub record RisesAtMost (n before after : ℕ) : Type 0 where
  pub grows : before ≤ after
  pub cost : after ≤ before + n
