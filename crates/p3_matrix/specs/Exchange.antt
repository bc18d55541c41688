-- Two chunks of a list that change places.
use Rattle.std.specs.Prelude.{◌≡◌, ℕ, ◌+◌, ◌<◌, ◌≤◌, ◌⊎◌, List, get_or}

-- ys is xs with the n elements from a on and those from b on in each other's places
pub record IsExchange {T : Type 0} (xs ys : List T) (a b n : ℕ) : Type 0 where
  pub first : (k : ℕ) (d : T) → k < n → get_or ys (a + k) d ≡ get_or xs (b + k) d
  pub second : (k : ℕ) (d : T) → k < n → get_or ys (b + k) d ≡ get_or xs (a + k) d
  pub others : (p : ℕ) (d : T) → (p < a) ⊎ (a + n ≤ p) → (p < b) ⊎ (b + n ≤ p) → get_or ys p d ≡ get_or xs p d
