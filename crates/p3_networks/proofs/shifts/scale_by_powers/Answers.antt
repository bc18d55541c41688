use Rattle.std.proofs.Common.{◌++◌, List, sym, subst}
use Rattle.p3_networks.proofs.Layers.Scalings.{IsScaled, scaled_in_parts}
use Rattle.p3_networks.proofs.shifts.scale_by_powers.Goals as goal

pub returns-clause-values : goal.returns-clause-values
returns-clause-values g c =
    let field = g.F.Valued in
    let single = c.split_at_mut-single.result.0.now in
    let packs = c.split_at_mut-single.result.1.now in
    let single_after = c.scale_each-next.new.values in
    let packs_after = c.scale_packs.new.values in
    let first = field.value c.args.first in
    let base = field.value c.args.base in
    subst (λ (xs : List g.row.F.Denot). IsScaled field.ring field.value field.zero first base xs
    (single_after ++ packs_after)) (sym c.split_at_mut-single.ensures.value)
    (scaled_in_parts field.ring field.value field.zero first base (field.value c.scale_each-next.result) single packs
    single_after packs_after c.scale_each-next.auto.values
    c.scale_each-next.ensures.next c.scale_each-next.ensures.values c.scale_packs.ensures.values)
