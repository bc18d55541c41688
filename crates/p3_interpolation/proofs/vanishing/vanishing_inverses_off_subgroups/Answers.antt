use Rattle.std.proofs.Common.{◌+◌, ◌^◌, sym, subst}
use Rattle.p3_interpolation.proofs.VanishingValues.{off_smaller}
use Rattle.p3_interpolation.specs.Interpolations.{IsOffCoset}
use Rattle.p3_interpolation.proofs.vanishing.vanishing_inverses_off_subgroups.Goals as goal

pub vanishing_inverses-requires-clause-off_subgroup : goal.vanishing_inverses-requires-clause-off_subgroup
vanishing_inverses-requires-clause-off_subgroup g c =
    let f = g.F.Valued in
    let n = c.args.log_height + c.args.added_bits in
    subst (λ (x : g.row.F.Denot). IsOffCoset f.ring (2 ^ n) f.ring.one (f.value x)) (sym c.GENERATOR.ensures)
    (off_smaller f.ring g.met.F.TwoAdicField.roots_law g.F.TwoAdicField.TWO_ADICITY n (f.value g.F.Field.GENERATOR)
    c.requires.within g.met.F.CosetGenerator.off_law)

pub returns-clause-inverses : goal.returns-clause-inverses
returns-clause-inverses g c = rw c.GENERATOR.ensures at c.vanishing_inverses.ensures.inverses
