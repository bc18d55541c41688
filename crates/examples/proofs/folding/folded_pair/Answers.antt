use Rattle.std.proofs.Common.{ap, ◌∙◌}
use Rattle.examples.proofs.FoldedValues.{pair_by_factor}
use Rattle.examples.proofs.folding.folded_pair.Goals as goal

pub returns : goal.returns
returns g c = λ beta x challenge.
    let f = g.F.Valued in
    let law = g.met.F.Field in
    pair_by_factor f.ring beta x (f.value c.args.near) (f.value c.args.far) (f.value c.args.factor) (f.value c.halve.result) (f.value c.add-2.result)
    (c.halve.ensures ∙ law.add_law _ _ _ c.add.ensures)
    (law.add_law _ _ _ c.add-2.ensures
    ∙ ap (f.ring.add (f.value c.halve.result)) (law.mul_law _ _ _ c.mul.ensures
    ∙ ap (f.ring.mul (f.value c.args.factor)) (law.sub_law _ _ _ c.sub.ensures)))
    challenge
