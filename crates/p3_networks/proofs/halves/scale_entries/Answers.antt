use Rattle.p3_networks.proofs.Lemmas.{sym, ap, ◌∙◌, get_or, value_at, factor}
use Rattle.p3_networks.proofs.halves.scale_entries.Goals as goal

pub returns-in-Some-clause-values : goal.returns-in-Some-clause-values
returns-in-Some-clause-values g c n below =
    let field = g.F.Valued in
    value_at field.value (λ x. field.ring.mul x (field.value c.in-Some.scale)) c.args.values.now _ n field.zero
    c.scale_slice_in_place.ensures.values c.scale_slice_in_place.auto.values below
    ∙ ap (λ s. field.ring.mul (field.value (get_or c.args.values.now n field.zero)) (factor field s)) (sym c.in-Some.is)
