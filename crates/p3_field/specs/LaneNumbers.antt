-- Packed values by the numbers of their lanes.
use Rattle.std.specs.Prelude.{ℕ, ◌<◌, List, [], ◌∷◌}
use Rattle.std.specs.Simd.Lanes.{Each1}

-- each number is below m
abbrev pub AreBelow : ℕ → List ℕ → Type 0
AreBelow m xs = Each1 (λ n. n < m) xs

-- what is made of each of the numbers, which are below m
abbrev pub elements_of : {m : ℕ} {B : Type 0} → ((n : ℕ) → n < m → B) → (xs : List ℕ) → AreBelow m xs → List B
elements_of make [] below = []
elements_of make (x ∷ xs) below = make x below.0 ∷ elements_of make xs below.1
