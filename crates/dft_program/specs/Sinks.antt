-- What calls on a sink do to its bytes and to the count of the calls that failed.
use Rattle.std.specs.Prelude.{◌≡◌, ◌++◌, ℕ, zero, suc, List, [], ◌∷◌, take, Option, Result, Ok, Err}
use Rattle.std.specs.Io.KnownBytes.{Appends}

-- what is known of a sink: the bytes that its answers reported that it took, those that it holds, if they are known, and how many calls failed
pub record Calls : Type 0 where
  pub bytes : List ℕ
  pub contents : Option (List ℕ)
  pub failures : ℕ

-- the sink took these bytes: it reported so, and what it holds, if that is known, grew by them
abbrev pub Took : Calls → Calls → List ℕ → Type 0
Took old new taken = (new.bytes ≡ old.bytes ++ taken) × Appends old.contents new.contents taken

-- it took a beginning of the text, which may be all of it or nothing
abbrev pub TookStartOf : Calls → Calls → List ℕ → Type 0
TookStartOf old new text = (start : List ℕ) × (rest : List ℕ) × (text ≡ start ++ rest) × Took old new start

-- the bytes that `write(buf)` took
abbrev pub taken : {E : Type 0} → Result ℕ E → List ℕ → List ℕ
taken (Ok n) buf = take n buf
taken (Err e) buf = []

-- one where `write(buf)` failed, or took none of at least one byte
abbrev pub write_failures : {E : Type 0} → Result ℕ E → List ℕ → ℕ
write_failures (Err e) buf = 1
write_failures (Ok (suc n)) buf = 0
write_failures (Ok zero) [] = 0
write_failures (Ok zero) (b ∷ bs) = 1

-- one where `flush()` failed
abbrev pub flush_failures : {T E : Type 0} → Result T E → ℕ
flush_failures (Err e) = 1
flush_failures (Ok t) = 0
