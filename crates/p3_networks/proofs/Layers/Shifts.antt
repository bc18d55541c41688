-- A shift of one, as a program of 64 bits has it.
use Rattle.std.proofs.Common.{ℕ, ◌*◌, ◌%◌, ◌^◌}

-- 1 << n
abbrev pub one_shifted : ℕ → ℕ
one_shifted n = 1 * 2 ^ n % 18446744073709551616
