use Rattle.std.proofs.Common.{◌≤◌, lit≤, sym, arith}
use Rattle.std.proofs.Math.Nat.{div-eq_of_lt, pow-le-pow_right}
use Rattle.liktrob.proofs.calls.message_size.Goals as goal

pub returns-else-added_bits-lt64 : goal.returns-else-added_bits-lt64
returns-else-added_bits-lt64 c = let many : 64 ≤ c.args.added_bits = omega arith in sym (div-eq_of_lt (omega (arith, pow-le-pow_right {n = 2} (lit≤ tt) many)))
