use Rattle.p3_networks.proofs.Lemmas.{◌≡◌, ℕ, ◌+◌, ◌*◌, ◌-◌, ◌^◌, get_or, sym, ap, ◌∙◌, arith, pow_pos, rev, poly, poly_same, point_of_one, one_chunk_counted}
use Rattle.p3_networks.proofs.Lemmas.{fewer_roots, subgroup_table}
use Rattle.p3_networks.proofs.radix_2_dit.network_in_cache.Goals as goal

pub returns-clause-values : goal.returns-clause-values
returns-clause-values g c r j below inside =
    let field = g.F.Valued in
    let root = λ (n : ℕ). field.value (g.F.TwoAdicField.generator n) in
    let k = c.args.log_h in
    let w = c.args.width in
    let plain : (u : ℕ) → (0 * 2 ^ k + u) * w + j ≡ u * w + j = λ u. omega arith in
    let table = subgroup_table field g.F.TwoAdicField.generator k (g.T.LayerTwiddles.at c.args.table) c.requires.twiddles in
    let roots = fewer_roots field.ring k g.F.TwoAdicField.TWO_ADICITY c.requires.within g.met.F.TwoAdicField.roots_law in
    ap (λ n. field.value (get_or c.first_half.new.values n field.zero)) (sym (plain r))
    ∙ c.first_half.ensures.values root field.ring.one roots table 0 r j (pow_pos (k - k)) below inside
    ∙ ap (poly field.ring (2 ^ k) _) (point_of_one field.ring root k r)
    ∙ poly_same field.ring (2 ^ k) _ _ _ (λ q p. ap (λ n. field.value (get_or c.args.values.now n field.zero)) (plain (rev k q)))

pub returns-clause-cost : goal.returns-clause-cost
returns-clause-cost g c = one_chunk_counted c.args.log_h _ _ _ c.first_half.ensures.cost.cost
