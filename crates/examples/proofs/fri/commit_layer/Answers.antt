use Rattle.std.proofs.Common.{◌≡◌, ◌*◌, ◌/◌, ◌^◌, subst, arith}
use Rattle.std.proofs.Math.Nat.{two-pow-succ}
use Rattle.p3_matrix.specs.RowMajor.{rows_from}
use Rattle.examples.specs.MerkleTrees.{AreNodes}
use Rattle.examples.proofs.FoldedValues.{half_height}
use Rattle.examples.proofs.fri.commit_layer.Goals as goal

pub tree_of_pairs-requires : goal.tree_of_pairs-requires
tree_of_pairs-requires g c = omega (arith, (half_height _ _ c.requires.fits.height c.requires.pairs).2, c.height-leaves.ensures.height)

pub returns-clause-layer : goal.returns-clause-layer
returns-clause-layer g c = λ k high.
    let hash = g.H.RowHash in
    let half : c.height-leaves.result / 2 ≡ 2 ^ k = omega (arith, c.height-leaves.ensures.height, high, two-pow-succ k) in
    record {
      height = high;
      tree =
          subst (λ n. AreNodes hash.worth (hash.of_pair c.args.hash.now) n
          (λ i. hash.of_row c.args.hash.now (rows_from c.args.codeword (2 * i) 2).values) c.in_ok-nodes.nodes.items)
          half c.in_ok-nodes.ensures.nodes;
      folds = (c.in_ok-folded.ensures.folded k high).1;
    }
