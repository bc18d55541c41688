use Rattle.p3_dft.proofs.Lemmas.{◌≡◌, ℕ, ◌+◌, ◌-◌, ◌^◌, ◌<◌, sym, ap, ◌∙◌, subst, arith, ◌≤◌, AreRoots, rev, mid_of, point, values_of, poly, factor, root_of}
use Rattle.p3_dft.proofs.Lemmas.{scale_cost, halves_counted, halves_whole, point_of_one, block_table, fewer_layers, layer_there, are_roots, fewer_roots}
use Rattle.p3_dft.proofs.Lemmas.{low_table, HasTwoPowerRows}
use Rattle.p3_dft.proofs.radix_2_dit_parallel.transform.transform_to_reversed.Goals as goal

halves_below : (k n : ℕ) → k ≤ n → mid_of k ≤ mid_of n
halves_below k n below = omega (arith, below)

pub network_to_reversed-requires-clause-low : goal.network_to_reversed-requires-clause-low
network_to_reversed-requires-clause-low g c =
    let k = c.args.log_h in
    layer_there (mid_of k) _ (omega (arith, c.requires.rows.fits_u64))
    (fewer_layers g.F.Valued _ (mid_of k) _ _ (halves_below k _ c.requires.in_table) c.low.ensures.table).size

pub network_to_reversed-requires-clause-rows : goal.network_to_reversed-requires-clause-rows
network_to_reversed-requires-clause-rows g c = subst (HasTwoPowerRows c.args.mat.now) (sym (halves_whole c.args.log_h)) c.requires.rows

pub network_to_reversed-requires-clause-high : goal.network_to_reversed-requires-clause-high
network_to_reversed-requires-clause-high g c l from below = c.high.ensures.table.size l (omega (arith, below, c.requires.in_table))

pub returns-clause-values : goal.returns-clause-values
returns-clause-values g c r j p q =
    let field = g.F.Valued in
    let gen = g.F.TwoAdicField.generator in
    let inverse = c.args.inverse in
    let k = c.args.log_h in
    let mid = mid_of k in
    let left = k - mid in
    let root = root_of field gen inverse in
    let k_is : mid + left ≡ k = halves_whole k in
    let roots : AreRoots field.ring (mid + left) root =
    fewer_roots field.ring (mid + left) _ (omega (arith, c.requires.in_table, c.high.ensures.within))
    (are_roots field gen inverse g.met.F.TwoAdicField.roots_law) in
    let f = λ (u : ℕ). field.ring.mul ((values_of field c.args.mat.now).entry u j) (factor field c.args.scale) in
    c.network_to_reversed.ensures.values root field.ring.one roots
    (low_table field gen inverse mid (2 ^ left) _ (λ l t below inside. c.low.ensures.table.entries l t
    (omega (arith, below, halves_below k _ c.requires.in_table)) inside))
    (block_table field root mid (mid + left) c.args.tables.now c.high.result.now (omega (arith, c.requires.in_table)) c.high.ensures.table)
    r j (subst (λ (n : ℕ). r < 2 ^ n) (sym k_is) p) q
    ∙ ap (λ n. poly field.ring (2 ^ n) f (point field.ring root n field.ring.one (rev n r))) k_is
    ∙ ap (poly field.ring (2 ^ k) f) (point_of_one field.ring root k (rev k r))

pub returns-clause-cost : goal.returns-clause-cost
returns-clause-cost g c =
    let k = c.args.log_h in
    let mid = mid_of k in
    let e = halves_counted mid (k - mid) k c.args.mat.now.width (scale_cost c.args.scale) (halves_whole k) in
    omega (arith, e, c.network_to_reversed.ensures.cost)
