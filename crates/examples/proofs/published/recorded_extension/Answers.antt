use Rattle.std.proofs.Common.{◌≡◌, ◌+◌, ◌*◌, ◌^◌, ap, refl, sym, ◌∙◌, arith, of_calls}
use Rattle.std.proofs.Math.Nat.{div-le_self}
use Rattle.std.proofs.lemmas.Nat.{pow-add}
use Rattle.p3_matrix.specs.RowMajor.{height}
use Rattle.p3_matrix.proofs.Consumers.{all_recorded}
use Rattle.p3_dft.proofs.Calls.PublishedExtensions.{physical_height}
use Rattle.examples.proofs.published.recorded_extension.Goals as goal

pub returns-in-Ok-clause-recorded : goal.returns-in-Ok-clause-recorded
returns-in-Ok-clause-recorded g c = λ k e.
    let a = c.args.added_bits in
    let b = g.D.TwoAdicSubgroupDft.facts.block_rows k a in
    let out = c.in-Ok.out.physical in
    let x = c.in-Ok.ensures.values in
    let wide : out.width ≡ c.args.mat.width = (x.extended k e).width ∙ (x.are_coefficients k e).width in
    let tall =
    physical_height g.F.Valued c.in-Ok.out.bits (k + a) out _ c.height-whole.ensures.whole
    (sym c.height-whole.ensures.height ∙ c.height-whole.ensures.power) refl (x.extended k e).height in
    let rows : c.extended_height-rows.result ≡ 2 ^ (k + a) =
    c.extended_height-rows.ensures.height ∙ ap (λ h. h * 2 ^ a) (c.height.ensures.height ∙ e) ∙ sym (pow-add 2 k a) in
    all_recorded _ b out c.in-Ok.recorder _ _
    (λ r made. let same : r ≡ c.in_ok-recorder.recorder = search of_calls in same ∙ c.in_ok-recorder.ensures.made)
    (rw rows (omega (arith, tall, div-le_self (height out) b)))
    (rw (rows, c.width-2.ensures.width, tall, wide) (omega arith))
    (c.in-Ok.ensures.published k e)

pub returns-in-OutOfMemory-clause-refused : goal.returns-in-OutOfMemory-clause-refused
returns-in-OutOfMemory-clause-refused g c = (_, _, _, _, rw c.in-OutOfMemory.is at c.in-Err.ensures.engine.refused)
