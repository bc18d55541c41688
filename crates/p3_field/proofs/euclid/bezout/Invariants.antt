use Rattle.p3_field.proofs.Lemmas.{ℕ, ◌≡◌, ◌<◌, ◌*◌, ◌%◌, IsGcd}
use Rattle.p3_field.proofs.euclid.bezout.Given as goal

-- each factor takes the number to what it stands beside, and no common divisor is lost
abbrev pub invariant-loop-low : goal.invariant-loop-low
invariant-loop-low l = record {
  high_factor_below : l.high_factor < l.modulus;
  low_factor_below : l.low_factor < l.modulus;
  high_factor : (l.high_factor * l.number) % l.modulus ≡ l.high % l.modulus;
  low_factor : (l.low_factor * l.number) % l.modulus ≡ l.low % l.modulus;
  divisor : (d : ℕ) → IsGcd l.high l.low d → IsGcd l.modulus l.number d;
}

abbrev pub decreases-loop-low : goal.decreases-loop-low
decreases-loop-low l = l.low
