-- Calls on something outside the program, as an account of them has them.
use Rattle.std.specs.Prelude.{ℕ, List, length, max}
use Rattle.std.specs.List.{fold}

-- a call: the place that it was made for, the bytes that it gave or took, and 1 where it failed
pub record Call : Type 0 where
  pub place : ℕ
  pub bytes : List ℕ
  pub failures : ℕ

-- how many bytes went over in the call in which the most did
abbrev pub most_bytes : List Call → ℕ
most_bytes calls = fold (λ most call. max most (length call.bytes)) 0 calls
