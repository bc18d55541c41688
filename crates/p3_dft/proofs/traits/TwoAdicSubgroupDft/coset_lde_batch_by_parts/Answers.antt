use Rattle.p3_dft.proofs.Lemmas.{◌∙◌, arith, IfOk-weaker, answered_shape, extension_of_parts, entries_rise, fewer_entries, fits_lde_as, input_fits}
use Rattle.p3_dft.proofs.Lemmas.{part_refused, parts_after}
use Rattle.p3_dft.proofs.traits.TwoAdicSubgroupDft.coset_lde_batch_by_parts.Goals as goal

pub idft_batch-requires : goal.idft_batch-requires
idft_batch-requires g c = record { fits = input_fits _ _ _ _ c.requires.fits }

pub coset_lde_batch_of_coefficients-requires : goal.coset_lde_batch_of_coefficients-requires
coset_lde_batch_of_coefficients-requires g c =
    let fits = c.requires.fits in
    let shape =
    answered_shape c.requires.fits c.in_ok-coefficients.ensures.coefficients c.exchange_layouts.ensures.shape
    c.exchange_layouts.ensures.whole c.requires.shape (rw c.LAYOUT-2.ensures at c.transform-coefficients.ensures) in
    let back = c.exchange_layouts-2.ensures.shape in
    record { fits = fits_lde_as _ _ _ _ _ _ fits (back.0 ∙ shape.0) (back.1 ∙ shape.1) }

pub returns-clause-values : goal.returns-clause-values
returns-clause-values g c =
    let called = rw c.LAYOUT-2.ensures at c.transform-coefficients.ensures in
    let shape =
    answered_shape c.requires.fits c.in_ok-coefficients.ensures.coefficients c.exchange_layouts.ensures.shape
    c.exchange_layouts.ensures.whole c.requires.shape called in
    let back = c.exchange_layouts-2.ensures.shape in
    IfOk-weaker c.coset_lde_batch_of_coefficients.result _ _
    (λ out given.
    extension_of_parts g.F.Valued g.F.TwoAdicField.generator _ g.Self.TwoAdicSubgroupDft.LAYOUT (g.N.IntoRowMajorMatrix.stored c.args.mat)
    c.in_ok-coefficients.coefficients c.exchange_layouts.new.mat c.transform-coefficients.result
    c.exchange_layouts-2.new.mat (g.Self.Evaluations.Evaluations.natural out)
    c.args.added_bits (g.F.Valued.value c.args.shift)
    c.in_ok-coefficients.ensures.coefficients
    (rw c.LAYOUT.ensures at c.exchange_layouts.ensures.rows)
    c.exchange_layouts.ensures.whole c.exchange_layouts-2.ensures.was_whole called shape.0
    (rw c.LAYOUT-3.ensures at c.exchange_layouts-2.ensures.rows)
    (back.0 ∙ shape.0) given)
    c.coset_lde_batch_of_coefficients.ensures.values

pub exchange_layouts-requires : goal.exchange_layouts-requires
exchange_layouts-requires g c =
    let fits = c.requires.fits in
    record { power = (fits.log, (c.in_ok-coefficients.ensures.coefficients.holds fits.log fits.height).height ∙ fits.height) }

pub exchange_layouts-requires-2 : goal.exchange_layouts-requires-2
exchange_layouts-requires-2 g c =
    let fits = c.requires.fits in
    let shape =
    answered_shape c.requires.fits c.in_ok-coefficients.ensures.coefficients c.exchange_layouts.ensures.shape
    c.exchange_layouts.ensures.whole c.requires.shape (rw c.LAYOUT-2.ensures at c.transform-coefficients.ensures) in
    record { power = (fits.log, shape.0 ∙ fits.height) }

pub returns-clause-engine : goal.returns-clause-engine
returns-clause-engine g c =
    let shape =
    answered_shape c.requires.fits c.in_ok-coefficients.ensures.coefficients c.exchange_layouts.ensures.shape
    c.exchange_layouts.ensures.whole c.requires.shape (rw c.LAYOUT-2.ensures at c.transform-coefficients.ensures) in
    let back = c.exchange_layouts-2.ensures.shape in
    parts_after (g.N.IntoRowMajorMatrix.stored c.args.mat) c.exchange_layouts-2.new.mat c.args.added_bits (back.0 ∙ shape.0, back.1 ∙ shape.1)
    (λ k. omega (arith, entries_rise k c.args.added_bits (g.N.IntoRowMajorMatrix.stored c.args.mat).width))
    c.in_ok-coefficients.ensures.engine c.coset_lde_batch_of_coefficients.ensures.engine

pub transform-coefficients-requires : goal.transform-coefficients-requires
transform-coefficients-requires g c =
    let are = c.in_ok-coefficients.ensures.coefficients.holds c.requires.fits.log c.requires.fits.height in
    rw c.LAYOUT-2.ensures (c.requires.callable c.exchange_layouts.new.mat c.exchange_layouts.ensures.whole
    (c.exchange_layouts.ensures.shape.0 ∙ are.height, c.exchange_layouts.ensures.shape.1 ∙ are.width))

pub returns-in_err-coefficients-clause-engine : goal.returns-in_err-coefficients-clause-engine
returns-in_err-coefficients-clause-engine g c =
    part_refused c.from_residual.ensures (λ k. omega arith) (fewer_entries _ _) (omega arith) c.in_err-coefficients.ensures.engine
