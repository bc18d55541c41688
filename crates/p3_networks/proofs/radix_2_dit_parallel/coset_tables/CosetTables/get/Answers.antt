use Rattle.p3_networks.proofs.Lemmas.{◌<◌, length, get_or, sym, ap, ◌∙◌, subst, get_or_default}
use Rattle.p3_networks.proofs.radix_2_dit_parallel.coset_tables.CosetTables.get.Goals as goal

pub returns : goal.returns
returns g c d =
    let inside = subst (λ xs. c.args.place < length xs) (sym c.as_slice.ensures) c.requires in
    c.index-as_slice-place.is ∙ get_or_default c.as_slice.result.now c.args.place c.index-as_slice-place.result d inside
    ∙ ap (λ xs. get_or xs c.args.place d) c.as_slice.ensures
