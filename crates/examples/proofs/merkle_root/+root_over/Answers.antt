use Rattle.std.proofs.Common.{ap₂, ◌∙◌, arith, rules}
use Rattle.examples.proofs.MerkleTrees.{halves, joined_halves}
use Rattle.examples.proofs.merkle_root.+root_over.Goals as goal

pub root_over-left-requires : goal.root_over-left-requires
root_over-left-requires g t c κs within =
    let half = halves c.args.log_leaves _ (omega arith) c.requires in
    (omega arith, (search rules, (search rules, (search rules, omega (arith, half.0, c.split_at.ensures.front_len)))))

pub root_over-right-requires : goal.root_over-right-requires
root_over-right-requires g t c κs within =
    let half = halves c.args.log_leaves _ (omega arith) c.requires in
    (omega arith, (search rules, (search rules, (search rules, omega (arith, half.1, c.split_at.ensures.back_len)))))

pub returns : goal.returns
returns g t c = λ d.
    c.join.ensures ∙ ap₂ (g.H.RowHash.of_pair c.args.hash.now) (c.root_over-left.ensures d) (c.root_over-right.ensures d)
    ∙ joined_halves g.H.RowHash.worth (g.H.RowHash.of_pair c.args.hash.now) c.args.log_leaves c.args.leaves.now _ _ d (omega arith) c.requires
    c.split_at.ensures.front c.split_at.ensures.back
