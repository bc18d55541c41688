use Rattle.p3_networks.proofs.Lemmas.{sym, subst, HasCoset, IsCosetAt}
use Rattle.p3_networks.proofs.radix_2_dit_parallel.published_slots.place_of_slot.Goals as goal

pub place_of-requires : goal.place_of-requires
place_of-requires g c =
    let field = g.F.Valued in
    subst (λ (x : field.Element). HasCoset field c.args.cosets.now c.args.log_h x) (sym c.slot_shift-coset.ensures) c.requires.in_table

pub returns : goal.returns
returns g c =
    let field = g.F.Valued in
    subst (λ (x : field.Element). IsCosetAt field c.args.cosets.now c.args.log_h x c.place_of.result) c.slot_shift-coset.ensures c.place_of.ensures
