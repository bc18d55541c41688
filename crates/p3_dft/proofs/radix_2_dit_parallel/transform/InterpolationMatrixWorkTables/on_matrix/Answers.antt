use Rattle.p3_dft.proofs.Lemmas.{◌∙◌, bit_reversal, matrix, values_of, same_sym, mapped_same, same_coefficients, interpolation_of_coefficients, one_for_each}
use Rattle.p3_dft.proofs.radix_2_dit_parallel.transform.InterpolationMatrixWorkTables.on_matrix.Goals as goal

pub returns-clause-takes : goal.returns-clause-takes
returns-clause-takes g c =
    let field = g.F.Valued in
    let log = c.args.log_h in
    let m = c.args.mat.now in
    let reversed = bit_reversal log (values_of field c.interpolate_to_reversed.new.mat) in
    let out = c.reverse_rows.new.mat in
    let are = c.interpolate_to_reversed.ensures.coefficients in
    interpolation_of_coefficients field g.F.TwoAdicField.generator g.met.F.TwoAdicField.roots_law m out log c.requires.within c.requires.rows.height
    (same_coefficients field.ring g.met.F.TwoAdicField.roots_law (values_of field m) log field.ring.one reversed (values_of field out)
    (same_sym (values_of field out) reversed
    (mapped_same field.value (matrix field.zero out) (bit_reversal log
    (matrix field.zero c.interpolate_to_reversed.new.mat)) (c.reverse_rows.ensures.rows log
    (are.height ∙ c.requires.rows.height) field.zero))) are)

pub returns-clause-cost : goal.returns-clause-cost
returns-clause-cost g c = one_for_each _ _ _ _ c.interpolate_to_reversed.ensures.cost
