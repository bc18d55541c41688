use Rattle.p3_field.proofs.Lemmas.{◌+◌, ◌++◌, ap₂, length-append, refl, subst, sym, ◌∙◌, pick_l_whole, AreBelow, each_joined}
use Rattle.p3_field.proofs.residue31_x16.Residue31X16.joined.Goals as goal

pub invariant_of-result : goal.invariant_of-result
invariant_of-result g c =
    let low = c.args.low in
    let high = c.args.high in
    let is = pick_l_whole 0 (low.lanes ++ high.lanes) 16 (length-append low.lanes high.lanes ∙ ap₂ ◌+◌ low.eight high.eight) in
    record { below = subst (AreBelow g.N.Numbers.numbers.modulus) (sym is) (each_joined _ low.lanes high.lanes low.below high.below); sixteen = refl }

pub returns : goal.returns
returns g c =
    let low = c.args.low in
    let high = c.args.high in
    pick_l_whole 0 (low.lanes ++ high.lanes) 16 (length-append low.lanes high.lanes ∙ ap₂ ◌+◌ low.eight high.eight)
