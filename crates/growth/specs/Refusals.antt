-- Which growths were refused.
use Rattle.std.specs.Prelude.{ℕ, ◌≤◌}
pub use Rattle.growth.specs.Evidence.{IsRefused}

-- memory was refused to a vector that needed room for so many elements of so many bytes each, which larger bounds tell too
abbrev pub WasRefused : ℕ → ℕ → Type 0
WasRefused size room = (bytes n : ℕ) → size ≤ bytes → room ≤ n → IsRefused bytes n
