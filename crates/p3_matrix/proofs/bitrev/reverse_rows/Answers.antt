use Rattle.p3_matrix.proofs.Lemmas.{rules, ◌≡◌, ◌∙◌, ap, subst, bit_reversal, reversed_rows, Same, matrix, RowMajor, height}
use Rattle.p3_matrix.proofs.ReversedRows.{reversed_is, reversed_from}
use Rattle.p3_matrix.proofs.bitrev.reverse_rows.Goals as goal

pub returns-clause-rows : goal.returns-clause-rows
returns-clause-rows g c k high d =
    let is = c.as_view_mut.ensures.matrix in
    subst (λ (m : RowMajor g.row.T.Denot). Same (matrix d m) (bit_reversal k (matrix d c.args.mat.now))) (search rules)
    (subst (λ (m : RowMajor g.row.T.Denot). Same (matrix d c.reverse_matrix_index_bits.new.view.matrix.now) (bit_reversal k (matrix d m))) is
    (c.reverse_matrix_index_bits.ensures.rows k (ap height is ∙ high) d))

pub returns-clause-reversed : goal.returns-clause-reversed
returns-clause-reversed g c k high =
    let is = c.as_view_mut.ensures.matrix in
    let rows = rw is at c.reverse_matrix_index_bits.ensures.rows in
    let shape = rw is at c.reverse_matrix_index_bits.ensures.shape in
    let size = rw is at c.reverse_matrix_index_bits.ensures.size in
    subst (λ (m : RowMajor g.row.T.Denot). m ≡ reversed_rows k c.args.mat.now) (search rules)
    (reversed_is k c.args.mat.now c.width-whole.ensures.whole high c.reverse_matrix_index_bits.new.view.matrix.now shape size (rows k high))

pub returns-clause-back : goal.returns-clause-back
returns-clause-back g c k high =
    let is = c.as_view_mut.ensures.matrix in
    let rows = rw is at c.reverse_matrix_index_bits.ensures.rows in
    let shape = rw is at c.reverse_matrix_index_bits.ensures.shape in
    let size = rw is at c.reverse_matrix_index_bits.ensures.size in
    subst (λ (m : RowMajor g.row.T.Denot). c.args.mat.now ≡ reversed_rows k m) (search rules)
    (reversed_from k c.args.mat.now c.reverse_matrix_index_bits.new.view.matrix.now c.width-whole.ensures.whole high shape size (rows k high))
