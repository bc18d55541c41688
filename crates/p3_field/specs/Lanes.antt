-- Operations on packed values, lane by lane.
use Rattle.std.specs.Prelude.{List, [], ◌∷◌}

-- the operation on the two scalars of each lane
abbrev pub by_lanes : {A : Type 0} → (A → A → A) → List A → List A → List A
by_lanes op [] ys = []
by_lanes op (x ∷ xs) [] = []
by_lanes op (x ∷ xs) (y ∷ ys) = op x y ∷ by_lanes op xs ys
