use Rattle.std.proofs.Common.{◌≡◌, ℕ, ◌+◌, reverse, sym, ◌∙◌, of_calls}
use Rattle.std.proofs.lemmas.Result.{IfOk-weaker}
use Rattle.p3_matrix.proofs.Polynomials.Cosets.{coefficients_same}
use Rattle.p3_matrix.proofs.Matrices.{same_sym, same_trans}
use Rattle.p3_matrix.specs.Cosets.{values_of}
use Rattle.examples.proofs.OppositeEntries.{opposite, same_shape}
use Rattle.examples.proofs.whole_rows.extension_of_opposite_entries.Goals as goal

pub coset_lde_batch_with_transform-requires-clause-shape : goal.coset_lde_batch_with_transform-requires-clause-shape
coset_lde_batch_with_transform-requires-clause-shape g c m n whole shape called =
    let width : n.width ≡ 2 = search of_calls in
    let values : n.values ≡ reverse m.values = search of_calls in
    let same = same_shape m n (width ∙ sym (shape.1 ∙ c.requires.two)) values in
    (same.0 ∙ shape.0, same.1 ∙ shape.1)

pub returns-clause-values : goal.returns-clause-values
returns-clause-values g c =
    let field = g.F.Valued in
    let generator = λ (n : ℕ). field.value (g.F.TwoAdicField.generator n) in
    IfOk-weaker c.coset_lde_batch_with_transform.result _ _
    (λ out given k e.
    let called = given.called in
    let width : given.answered.width ≡ 2 = search of_calls in
    let values : given.answered.values ≡ reverse given.told.values = search of_calls in
    let are = given.are_coefficients k e in
    let told = given.told_in_layout k e in
    let same = opposite field given.told given.answered given.told_whole (told.width ∙ are.width ∙ c.requires.two) width values given.coefficients told in (
      given.coefficients,
      are,
      coefficients_same field.ring generator given.changed _ (k + c.args.added_bits) (field.value c.args.shift) (values_of field out)
          (same_sym _ given.changed (same_trans _ (values_of field given.answered) given.changed same (given.answered_in_layout k e))) (given.extended k e),
    ))
    c.coset_lde_batch_with_transform.ensures.values
