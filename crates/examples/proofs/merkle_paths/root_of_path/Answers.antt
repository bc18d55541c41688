use Rattle.std.proofs.Common.{length, map, sym, ap, ◌∙◌}
use Rattle.std.proofs.lemmas.List.{length-map}
use Rattle.examples.specs.MerkleTrees.{climbed}
use Rattle.examples.proofs.MerklePaths.{bound_leaf}
use Rattle.examples.proofs.merkle_paths.root_of_path.Goals as goal

pub returns-clause-bound : goal.returns-clause-bound
returns-clause-bound g c = λ leaf i inside place told root.
    let hash = g.H.RowHash in
    let join = hash.of_pair c.args.hash.now in
    let path = c.args.path.now in
    bound_leaf join (map hash.worth path) (length path) i leaf (hash.worth c.args.digest) (length-map path hash.worth) inside told
    (ap (λ n. climbed join n (hash.worth c.args.digest) (map hash.worth path)) (sym place) ∙ sym c.climb.ensures ∙ root)
