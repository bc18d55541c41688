-- Repeated squaring.
use Rattle.std.specs.Prelude.{ℕ, zero, suc}
use Rattle.p3_field.specs.Ring.{Ring}

-- x after n squarings, the power of 2^n
abbrev pub repeated_square : {A : Type 0} → Ring A → A → ℕ → A
repeated_square r x zero = x
repeated_square r x (suc n) = repeated_square r (r.mul x x) n
