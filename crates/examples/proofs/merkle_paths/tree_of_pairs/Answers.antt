use Rattle.examples.proofs.Refusals.{told_by_growth}
use Rattle.examples.proofs.merkle_paths.tree_of_pairs.Goals as goal

pub returns-in_err-resize-clause-refused : goal.returns-in_err-resize-clause-refused
returns-in_err-resize-clause-refused g c =
    told_by_growth c.from_residual.result _ _ _ c.from_residual.ensures c.in_err-resize.ensures.room
