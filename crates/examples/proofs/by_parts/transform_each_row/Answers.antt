use Rattle.std.proofs.Common.{◌≡◌, ℕ, ◌+◌, ◌^◌, ◌<◌, length, ap, sym, ◌∙◌, arith}
use Rattle.p3_field.specs.Ring.{power}
use Rattle.p3_matrix.specs.Cosets.{point}
use Rattle.p3_matrix.specs.RowMajor.{height}
use Rattle.p3_matrix.proofs.Polynomials.Cosets.{point-mul}
use Rattle.p3_matrix.proofs.RowMajor.{whole_rows}
use Rattle.p3_dft.specs.Parts.{row_as_matrix}
use Rattle.p3_dft.specs.Transforms.{IsTransform}
use Rattle.p3_dft.proofs.Calls.EngineSteps.{later_still}
use Rattle.p3_dft.proofs.Calls.Shapes.{fits_dft_as}
use Rattle.examples.proofs.Parts.{each_more, logs_of_parts, part_fits, row_long, transform_as}
use Rattle.examples.proofs.Refusals.{told_by_either, told_by_growth}
use Rattle.examples.proofs.by_parts.transform_each_row.Goals as goal

pub overflow_add-log_parts : goal.overflow_add-log_parts
overflow_add-log_parts g c = omega (arith, (logs_of_parts c.args.log_parts c.args.log_rows c.requires.fits).1)

pub two_adic_generator-root-requires : goal.two_adic_generator-root-requires
two_adic_generator-root-requires g c = (logs_of_parts c.args.log_parts c.args.log_rows c.requires.fits).0

pub returns-in_err-parts-clause-refused : goal.returns-in_err-parts-clause-refused
returns-in_err-parts-clause-refused g c =
    told_by_growth c.from_residual.result _ _ _ c.from_residual.ensures c.in_err-parts.ensures.room

pub returns-in_err-from_slice-clause-refused : goal.returns-in_err-from_slice-clause-refused
returns-in_err-from_slice-clause-refused g c =
    let told = c.from_residual-in_err-from_slice in
    told_by_growth told.result _ _ _ told.ensures c.in_err-from_slice.ensures.room

pub returns-in_err-coset_dft_batch-clause-refused : goal.returns-in_err-coset_dft_batch-clause-refused
returns-in_err-coset_dft_batch-clause-refused g c =
    let told = c.from_residual-in_err-coset_dft_batch in
    told_by_either told.result _ _ _ _ _ told.ensures c.in_err-coset_dft_batch.ensures.engine.refused

pub new-row-requires-clause-full : goal.new-row-requires-clause-full
new-row-requires-clause-full g c =
    let m = c.args.wide.now in
    let inside : c.loop-i.i < height m = omega (arith, c.loop-i-test.true, c.height-i-end.ensures.height) in
    (whole_rows _ (2 ^ c.args.log_rows) c.args.width c.requires.fits.width
    (ap length (c.in_ok-from_slice.ensures.items ∙ c.row.ensures) ∙ row_long m c.loop-i.i inside ∙ c.requires.wide)).1

pub coset_dft_batch-requires : goal.coset_dft_batch-requires
coset_dft_batch-requires g c =
    let m = c.args.wide.now in
    let inside : c.loop-i.i < height m = omega (arith, c.loop-i-test.true, c.height-i-end.ensures.height) in
    let rows = (whole_rows _ (2 ^ c.args.log_rows) c.args.width c.requires.fits.width
    (ap length (c.in_ok-from_slice.ensures.items ∙ c.row.ensures) ∙ row_long m c.loop-i.i inside ∙ c.requires.wide)).0 in
    record {
      fits =
          fits_dft_as _ _ _ _ _ (part_fits c.args.log_parts c.args.log_rows c.requires.fits) (ap height c.new-row.ensures ∙ rows)
          (ap (λ p. p.width) c.new-row.ensures);
    }

pub loop-i-preserved : goal.loop-i-preserved
loop-i-preserved g c =
    let f = g.F.Valued in
    let gen = g.F.TwoAdicField.generator in
    let before = c.loop-i.invariant in
    let k = c.args.log_parts + c.args.log_rows in
    let i = c.loop-i.i in
    let part = λ (q : ℕ). row_as_matrix c.args.width c.args.wide.now q in
    let roots = λ (n : ℕ). f.value (gen n) in
    let s = f.value c.args.shift in
    let point_at = λ (q : ℕ). point f.ring roots k s q in
    let root = ap (λ (x : f.Element). power f.ring x i) (c.two_adic_generator-root.ensures) in
    let is_point : f.value c.mul-point.result ≡ point_at i =
    g.met.F.Field.mul_law _ _ _ c.mul-point.ensures ∙ ap (f.ring.mul s) (c.exp_u64.ensures ∙ root) ∙ sym (point-mul f.ring roots k s i) in
    let is_part : c.new-row.result ≡ part i =
    c.new-row.ensures
    ∙ ap (λ xs. record { width = c.args.width; values = xs }) (c.in_ok-from_slice.ensures.items ∙ c.row.ensures) in
    let made : IsTransform f gen (part i) (point_at i) c.to_row_major_matrix-part.result =
    transform_as f gen c.new-row.result (part i) _ _ (point_at i) (f.value c.mul-point.result) is_part is_point
    c.to_row_major_matrix-part.ensures c.in_ok-coset_dft_batch.ensures.values in
    record {
      long = omega (arith, before.long, c.push_reserved.ensures.len, c.loop-i.parts.ok.0, c.push_reserved.new.self.ok.0);
      room = omega (arith, before.room, c.push_reserved.ensures.capacity);
      parts = each_more (λ q out. IsTransform f gen (part q) (point_at q) out) i _ _ _ before.long c.push_reserved.ensures.items before.parts made;
      later = later_still g.D.TwoAdicSubgroupDft.facts _ _ _ before.later c.in_ok-coset_dft_batch.ensures.engine.later;
    }
