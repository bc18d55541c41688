use Rattle.p3_dft.proofs.Laws.TwoCalls.{transform_of_column}
use Rattle.examples.proofs.linearity.transforms_of_a_column.Goals as goal

pub returns-clause-column : goal.returns-clause-column
returns-clause-column g c =
    transform_of_column g.F.Valued g.F.TwoAdicField.generator g.met.F.TwoAdicField.roots_law c.args.mat c.args.column c.args.j (g.F.Valued.value c.args.shift)
    c.requires.fits c.requires.inside c.requires.column c.to_row_major_matrix-whole.result c.to_row_major_matrix-one.result
    (rw c.to_row_major_matrix-whole.ensures c.in_ok-coset_dft_batch.ensures.values)
    (rw c.to_row_major_matrix-one.ensures c.in_ok-coset_dft_batch-2.ensures.values)

pub returns-clause-whole : goal.returns-clause-whole
returns-clause-whole g c = rw c.to_row_major_matrix-whole.ensures c.in_ok-coset_dft_batch.ensures.values
