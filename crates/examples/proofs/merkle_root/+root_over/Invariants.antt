use Rattle.examples.proofs.merkle_root.+root_over.Given as goal

abbrev pub decreases-root_over : goal.decreases-root_over
decreases-root_over g l = l.log_leaves
