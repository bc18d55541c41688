-- What a sink took, where it is known what it holds.
use Rattle.std.proofs.Common.{◌≡◌, ℕ, List, ◌++◌, Option, Some, subst}
use Rattle.std.specs.Io.KnownBytes.{Appends}
use Rattle.dft_program.specs.Sinks.{Calls, Took}

pub took-contents : (old new : Calls) (xs ys bytes : List ℕ) → old.contents ≡ Some xs → new.contents ≡ Some ys → Took old new bytes → ys ≡ xs ++ bytes
took-contents old new xs ys bytes before after took =
    subst (λ (known : Option (List ℕ)). Appends (Some xs) known bytes) after
    (subst (λ (known : Option (List ℕ)). Appends known new.contents bytes) before took.1)
