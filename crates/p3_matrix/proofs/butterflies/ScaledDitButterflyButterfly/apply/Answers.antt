use Rattle.p3_matrix.proofs.Lemmas.{map, ap₂, ◌∙◌, minus, by_lanes, scaled_dit_near, scaled_dit_far, by_lanes-mapped}
use Rattle.p3_matrix.proofs.ButterflyLaws.{scaled_near, scaled_far}
use Rattle.p3_matrix.proofs.butterflies.ScaledDitButterflyButterfly.apply.Goals as goal

pub returns-clause-near : goal.returns-clause-near
returns-clause-near g c =
    let f = g.F.Valued in
    let r = f.ring in
    let b = c.args.self.now in
    c.add.ensures ∙ ap₂ (by_lanes r.add) c.scaled-scaled.ensures.lanes c.scaled-turned.ensures.lanes
    ∙ by_lanes-mapped r.add (scaled_dit_near r (f.value b.twiddle) (f.value b.scale)) (λ x. r.mul x (f.value b.scale))
    (λ y. r.mul y (f.value b.twiddle_times_scale))
    (scaled_near r (f.value b.twiddle) (f.value b.scale) (f.value b.twiddle_times_scale) (g.met.F.Field.number_law _ _ b.fits))
    (map f.value (g.P.PackedField.lanes c.args.x_1)) (map f.value (g.P.PackedField.lanes c.args.x_2))

pub returns-clause-far : goal.returns-clause-far
returns-clause-far g c =
    let f = g.F.Valued in
    let r = f.ring in
    let b = c.args.self.now in
    c.sub.ensures ∙ ap₂ (by_lanes (minus r)) c.scaled-scaled.ensures.lanes c.scaled-turned.ensures.lanes
    ∙ by_lanes-mapped (minus r) (scaled_dit_far r (f.value b.twiddle) (f.value b.scale))
    (λ x. r.mul x (f.value b.scale)) (λ y. r.mul y (f.value b.twiddle_times_scale))
    (scaled_far r (f.value b.twiddle) (f.value b.scale) (f.value b.twiddle_times_scale) (g.met.F.Field.number_law _ _ b.fits))
    (map f.value (g.P.PackedField.lanes c.args.x_1)) (map f.value (g.P.PackedField.lanes c.args.x_2))
