-- Which growths were refused. Private to the contracts of this crate: neither proofs nor other crates can name this file.
use Rattle.std.specs.Prelude.{◌≡◌, ℕ, ◌≤◌, ⊤}

-- memory was refused to a vector that needed room for at most n elements of at most so many bytes; no other file can unfold this
pub IsRefused : ℕ → ℕ → Type 0
IsRefused bytes n = ⊤

-- what alone shows it
pub evidence : (size room bytes n : ℕ) → size ≤ bytes → room ≤ n → IsRefused bytes n
unfolding IsRefused
evidence size room bytes n small less = tt

-- the evidence itself, which only a contract of this crate can ask for
abbrev pub IsEvidence : ℕ → ℕ → Type 0
IsEvidence size room = (refused : (bytes n : ℕ) → size ≤ bytes → room ≤ n → IsRefused bytes n) × (refused ≡ evidence size room)
