use Rattle.std.proofs.Common.{ap, subst, sym, ◌∙◌}
use Rattle.p3_field.specs.Ring.{IsInvertible}
use Rattle.p3_matrix.specs.RowMajor.{RowMajor, height}
use Rattle.p3_interpolation.specs.Interpolations.{IsOffCoset}
use Rattle.examples.proofs.ExtensionValues.{embedded_fits, embedded_unit, height-embedded}
use Rattle.examples.proofs.opening.open_in_extension.Goals as goal

pub interpolate_coset-requires-clause-fits : goal.interpolate_coset-requires-clause-fits
interpolate_coset-requires-clause-fits g c =
    embedded_fits g.E.ExtensionField.embedded c.args.mat.now c.in_ok-embedded.embedded g.F.TwoAdicField.TWO_ADICITY
    g.E.TwoAdicField.TWO_ADICITY g.met.E.ExtensionField.subgroups_law c.in_ok-embedded.ensures.embedded c.requires.fits

pub interpolate_coset-requires-clause-shift : goal.interpolate_coset-requires-clause-shift
interpolate_coset-requires-clause-shift g c =
    subst (λ y. IsInvertible g.E.Valued.ring (g.E.Valued.value y)) (sym c.from_base.ensures)
    (embedded_unit g.F.Valued g.E.Valued g.E.BasedVectorSpace g.F.TwoAdicField.generator g.E.TwoAdicField.generator
    g.E.ExtensionField.embedded g.E.ExtensionField.root g.E.ExtensionField.w
    g.met.E.ExtensionField.extension_law (ap g.F.Valued.value (sym g.met.F.Field.same_zero) ∙ g.met.F.Field.zero_law)
    (ap g.E.Valued.value (sym g.met.E.Field.same_zero) ∙ g.met.E.Field.zero_law) c.args.shift c.requires.shift)

pub interpolate_coset-requires-clause-off_coset : goal.interpolate_coset-requires-clause-off_coset
interpolate_coset-requires-clause-off_coset g c =
    let e = g.E.Valued in
    let same = ap (λ (r : RowMajor g.row.E.Denot). height r) c.in_ok-embedded.ensures.embedded
    ∙ height-embedded g.E.ExtensionField.embedded c.args.mat.now in
    subst (λ n. IsOffCoset e.ring n (e.value c.from_base.result) (e.value c.args.point)) (sym same)
    (subst (λ y. IsOffCoset e.ring (height c.args.mat.now) (e.value y) (e.value c.args.point)) (sym c.from_base.ensures) c.requires.off_coset)

pub returns-clause-values : goal.returns-clause-values
returns-clause-values g c = rw (c.in_ok-embedded.ensures.embedded, c.from_base.ensures) at c.interpolate_coset.ensures.values

pub returns-clause-count : goal.returns-clause-count
returns-clause-count g c =
    rw (c.in_ok-embedded.ensures.embedded, height-embedded g.E.ExtensionField.embedded c.args.mat.now) at c.interpolate_coset.ensures.count
