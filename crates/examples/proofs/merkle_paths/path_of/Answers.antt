use Rattle.std.proofs.Common.{◌≡◌, ℕ, suc, ◌+◌, ◌-◌, ◌^◌, ◌<◌, ◌≤◌, [], ◌++◌, get_or, map, sym, ap, ◌∙◌, arith}
use Rattle.std.proofs.Math.Nat.{two-pow-succ}
use Rattle.std.proofs.lemmas.List.{append-nil, get_or_read}
use Rattle.std.proofs.lemmas.Nat.{pow_pos}
use Rattle.examples.specs.MerkleTrees.{climbed}
use Rattle.examples.proofs.MerklePaths.{map_pushed, one_step, sibling_inside}
use Rattle.examples.proofs.merkle_paths.path_of.Goals as goal

-- below the height a node has a parent
has_parent : (log level node : ℕ) → level < log → ((m : ℕ) → level + m ≡ log → (2 ^ m ≤ node) × (node < 2 ^ suc m)) → 2 ≤ node
has_parent log level node below place =
    let m = log - level - 1 in
    let some : 1 ≤ 2 ^ m = pow_pos m in
    omega (arith, some, two-pow-succ m, (place (suc m) (omega (arith, below))).0)

pub sibling_of-requires : goal.sibling_of-requires
sibling_of-requires g c = omega (arith, has_parent _ _ _ c.loop-level-test.true c.loop-level.invariant.place)

pub bounds-nodes-sibling_of : goal.bounds-nodes-sibling_of
bounds-nodes-sibling_of g c =
    let some = has_parent _ _ _ c.loop-level-test.true c.loop-level.invariant.place in
    omega (arith, c.requires.size, sibling_inside _ _ _ some c.loop-level.invariant.inside c.sibling_of.ensures.even c.sibling_of.ensures.odd)

pub loop-level-preserved : goal.loop-level-preserved
loop-level-preserved g c =
    let before = c.loop-level.invariant in
    let some = has_parent _ _ _ c.loop-level-test.true before.place in
    record {
      long = omega (arith, before.long, c.push_reserved.ensures.len, c.loop-level.path.ok.0, c.push_reserved.new.self.ok.0);
      room = omega (arith, before.room, c.push_reserved.ensures.capacity);
      inside = omega (arith, before.inside);
      place = λ m more.
          let now = before.place (suc m) (omega (arith, more)) in
          (omega (arith, now.0, two-pow-succ m), omega (arith, now.1, two-pow-succ (suc m)));
      leads = λ h digest d rest are leads.
          ap (λ path. climbed (g.H.RowHash.of_pair h) (2 ^ c.args.log_leaves + c.args.leaf) (digest c.args.leaf)
          (map g.H.RowHash.worth path ++ rest)) c.push_reserved.ensures.items
          ∙ ap (climbed (g.H.RowHash.of_pair h) (2 ^ c.args.log_leaves + c.args.leaf) (digest c.args.leaf))
          (map_pushed g.H.RowHash.worth c.loop-level.path.items _ rest)
          ∙ before.leads h digest d _ are
          (one_step are d c.loop-level.node c.sibling_of.result _ rest _ some before.inside c.sibling_of.ensures.even c.sibling_of.ensures.odd
          (get_or_read c.args.nodes.now _ _ (omega (
            arith,
            c.requires.size,
            sibling_inside _ _ _ some before.inside
                c.sibling_of.ensures.even c.sibling_of.ensures.odd,
          )) c.index-nodes-sibling_of.is d) leads);
    }

pub returns-clause-leads : goal.returns-clause-leads
returns-clause-leads g c = λ h digest d are.
    let before = c.loop-level.invariant in
    let all : c.loop-level._level ≡ c.args.log_leaves = omega (arith, c.loop-level-test.false, c.loop-level.auto._level-end) in
    let place = before.place 0 (omega (arith, all)) in
    let root : c.loop-level.node ≡ 1 = omega (arith, place.0, place.1) in
    ap (climbed (g.H.RowHash.of_pair h) (2 ^ c.args.log_leaves + c.args.leaf) (digest c.args.leaf))
    (sym (append-nil (map g.H.RowHash.worth c.loop-level.path.items)))
    ∙ before.leads h digest d [] are (ap (λ n. g.H.RowHash.worth (get_or c.args.nodes.now n d)) root)
