use Rattle.p3_dft.proofs.Calls.Shapes.{input_fits}
use Rattle.p3_dft.proofs.Laws.TwoCalls.{extension_of_combination}
use Rattle.p3_dft.proofs.Calls.EngineSteps.{later_still}
use Rattle.examples.proofs.linearity.extensions_of_a_sum.Goals as goal

pub returns-clause-sum : goal.returns-clause-sum
returns-clause-sum g c =
    extension_of_combination g.F.Valued g.F.TwoAdicField.generator g.met.F.TwoAdicField.roots_law _ _ _
    (g.F.Valued.value c.args.a) (g.F.Valued.value c.args.b) (g.F.Valued.value c.args.shift)
    (input_fits _ _ _ _ c.requires.fits) c.requires.shape.0 c.requires.shape.1 c.requires.sum c.args.added_bits
    c.to_row_major_matrix-first.result c.to_row_major_matrix-second.result c.to_row_major_matrix-sum.result
    (rw c.to_row_major_matrix-first.ensures c.in_ok-coset_lde_batch.ensures.values)
    (rw c.to_row_major_matrix-second.ensures c.in_ok-coset_lde_batch-2.ensures.values)
    (rw c.to_row_major_matrix-sum.ensures c.in_ok-coset_lde_batch-3.ensures.values)

pub returns-clause-later : goal.returns-clause-later
returns-clause-later g c =
    later_still _ _ _ _
    (later_still _ _ _ _ c.in_ok-coset_lde_batch.ensures.engine.later c.in_ok-coset_lde_batch-2.ensures.engine.later)
    c.in_ok-coset_lde_batch-3.ensures.engine.later

pub returns-clause-first : goal.returns-clause-first
returns-clause-first g c = rw c.to_row_major_matrix-first.ensures c.in_ok-coset_lde_batch.ensures.values

pub returns-clause-second : goal.returns-clause-second
returns-clause-second g c = rw c.to_row_major_matrix-second.ensures c.in_ok-coset_lde_batch-2.ensures.values
