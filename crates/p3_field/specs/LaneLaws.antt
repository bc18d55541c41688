-- Proofs, and no definitions: what is made of the lanes of a packed value, and that their bounds are facts.
use Rattle.std.proofs.Common.{◌≡◌, ℕ, ◌<◌, List, [], ◌∷◌, length, suc, refl, ap}
use Rattle.std.proofs.Math.Bridge.{le_prop}
use Rattle.p3_field.specs.LaneNumbers.{AreBelow, elements_of}

pub are_below-prop : (m : ℕ) (xs : List ℕ) (a b : AreBelow m xs) → a ≡ b
are_below-prop m [] a b = refl
are_below-prop m (x ∷ xs) a b = λ i. (le_prop a.0 b.0 i, are_below-prop m xs a.1 b.1 i)

module _ {m : ℕ} {B : Type 0} (make : (n : ℕ) → n < m → B) where
  pub length-elements_of : (xs : List ℕ) (below : AreBelow m xs) → length (elements_of make xs below) ≡ length xs
  length-elements_of [] below = refl
  length-elements_of (x ∷ xs) below = ap suc (length-elements_of xs below.1)
