-- Proofs, and no definitions: what is made of a list of a fixed length depends on the list alone.
use Rattle.std.proofs.Common.{◌≡◌, ℕ, List, length, subst, ap}
use Rattle.std.proofs.Math.Nat.{ℕ_set}

pub made_of_list-eq : {F B : Type 0} {n : ℕ} (make : (xs : List F) → length xs ≡ n → B) (xs ys : List F)
    (long : length xs ≡ n) (same_long : length ys ≡ n)
    → xs ≡ ys → make xs long ≡ make ys same_long
made_of_list-eq {F} {B} {n} make xs ys long same_long e =
    subst (λ (zs : List F). (z : length zs ≡ n) → make xs long ≡ make zs z) e (λ z. ap (make xs) (ℕ_set (length xs) n long z)) same_long
