use Rattle.std.proofs.Common.{◌≡◌, ◌++◌, ◌∷◌, take}
use Rattle.std.specs.Fmt.{decimal}
use Rattle.std.specs.List.{flat_map}
use Rattle.std.specs.Vec.{vec_items}
use Rattle.dft_program.proofs.matrices.push_numbers.Given as goal

-- each further number stands behind a space
abbrev pub invariant-loop-element : goal.invariant-loop-element
invariant-loop-element g l =
    vec_items l.text ≡ vec_items l.initial.text ++ flat_map (λ x. 32 ∷ decimal (g.F.Valued.number (g.F.Valued.value x))) (take l.element-index l.others)
