use Rattle.p3_dft.proofs.Lemmas.{sym, ◌∙◌, arith, not_ok, at_log}
use Rattle.p3_dft.proofs.prepared.on_prepared.Goals as goal

pub returns-then-height-eq1-clause-made : goal.returns-then-height-eq1-clause-made
returns-then-height-eq1-clause-made g c =
    rw (← c.into_row_major_matrix-mat.ensures) (at_log _ _ 0 (sym c.height.ensures.height ∙ c.if-height-eq1.true) (omega arith))

pub returns-in_err-make_for-clause-succeeds : goal.returns-in_err-make_for-clause-succeeds
returns-in_err-make_for-clause-succeeds g c =
    rw (← c.into_row_major_matrix-mat.ensures) (at_log _ _ _ c.log_height-log_h.ensures.power
    (λ there. absurd (not_ok c.make_for.result _ c.in_err-make_for.was (c.make_for.ensures.succeeds there))))

pub returns-clause-made : goal.returns-clause-made
returns-clause-made g c =
    rw (← c.into_row_major_matrix-mat.ensures) (at_log _ _ _ c.log_height-log_h.ensures.power c.in_ok-make_for.ensures.made)

pub returns-clause-cost : goal.returns-clause-cost
returns-clause-cost g c =
    rw (← c.into_row_major_matrix-mat.ensures) (at_log _ _ _ c.log_height-log_h.ensures.power c.on_matrix.ensures.cost)
