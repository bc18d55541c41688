use Rattle.std.proofs.Common.{ap, length, sym, ◌∙◌}
use Rattle.p3_matrix.proofs.TwoPowers.{log_same}
use Rattle.examples.proofs.MerkleTrees.{root_of_digests}
use Rattle.examples.proofs.merkle_root.merkle_root.Goals as goal

pub root_over-root-requires : goal.root_over-root-requires
root_over-root-requires g c =
    ap length c.deref.ensures.value ∙ c.in_ok-rows.ensures.leaves.long ∙ sym c.height.ensures.height
    ∙ c.log2_strict_usize.ensures.power

pub returns-clause-root : goal.returns-clause-root
returns-clause-root g c =
    c.root_over-root.ensures c.root_over-root.result
    ∙ root_of_digests g.H.RowHash.worth (g.H.RowHash.of_pair c.args.hash.now) (g.H.RowHash.of_row c.args.hash.now)
    c.in_ok-rows.rows.physical c.in_ok-rows.leaves.items _
    c.log2_strict_usize.result c.in_ok-rows.rows.bits c.root_over-root.result c.in_ok-rows.ensures.leaves
    c.deref.ensures.value (sym c.height.ensures.height ∙ c.height.ensures.power)
    (log_same _ _ (sym c.log2_strict_usize.ensures.power ∙ c.height.ensures.power))
