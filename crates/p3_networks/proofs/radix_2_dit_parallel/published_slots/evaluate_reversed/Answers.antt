use Rattle.p3_networks.proofs.Lemmas.{◌≡◌, ℕ, ◌-◌, ◌*◌, ◌/◌, ◌^◌, length, ap, ◌∙◌, subst, arith, source_of, RisesAtMost, IsLowHalf, mid_of, by_layer}
use Rattle.p3_networks.proofs.Lemmas.{IsCosetTable, layer_there}
use Rattle.p3_networks.proofs.Networks.CosetHalves.{both_counted, both_rows, halves_whole, lent_on_coset}
use Rattle.p3_networks.proofs.radix_2_dit_parallel.published_slots.evaluate_reversed.Goals as goal
use Rattle.p3_networks.proofs.radix_2_dit_parallel.published_slots.evaluate_reversed.Goals.{in-Some, in-None}

pub first_half-requires-clause-table : goal.first_half-requires-clause-table
first_half-requires-clause-table g c l below =
    layer_there c.args.table.now.log_h _ (omega (arith, c.requires.table, c.requires.rows.fits_u64))
    c.twiddles.ensures.table.size l (omega (arith, c.requires.table, below))

pub first_half-requires-in-None-clause-table : goal.first_half-requires-in-None-clause-table
first_half-requires-in-None-clause-table g c l below =
    layer_there c.args.table.now.log_h _ (omega (arith, c.requires.table, c.requires.rows.fits_u64))
    c.twiddles.ensures.table.size l (omega (arith, c.requires.table, below))

pub last_half-requires-clause-table : goal.last_half-requires-clause-table
last_half-requires-clause-table g c l from below =
    layer_there c.args.table.now.log_h _ (omega (arith, c.requires.table, c.requires.rows.fits_u64))
    c.twiddles.ensures.table.size l (omega (arith, c.requires.table, below))

pub last_half-requires-clause-rows : goal.last_half-requires-clause-rows
last_half-requires-clause-rows g c =
    let same : length c.match-source.values ≡ length c.args.values.now =
    elim c.match-source.branch [
      | in-Some w ↦ ap length w.values-is ∙ w.first_half.auto.values
      | in-None w ↦ ap length w.values-is ∙ w.first_half-in-None.auto.values
    ] in
    both_rows c.args.log_h c.args.width _ _ c.requires.rows same

pub last_half-requires-clause-numbers : goal.last_half-requires-clause-numbers
last_half-requires-clause-numbers g c = let all = ap (λ n. 2 ^ n) (halves_whole c.args.log_h) in omega (arith, all, c.requires.numbers)

pub returns-clause-lent : goal.returns-clause-lent
returns-clause-lent g c =
    let field = g.F.Valued in
    let k = c.args.log_h in
    let s = field.value c.args.table.now.shift in
    let table = subst (λ (n : ℕ). IsCosetTable field g.F.TwoAdicField.generator s n c.twiddles.result.now) c.requires.table c.twiddles.ensures.table in
    let mid = mid_of k in
    let first : IsLowHalf field (2 ^ (k - mid)) mid c.args.width (by_layer field.zero c.twiddles.result.now)
    (source_of c.args.source c.args.values.now) c.match-source.values =
    elim c.match-source.branch [
      | in-Some w ↦ rw (w.values-is, w.in-Some.is) w.first_half.ensures.values
      | in-None w ↦ rw (w.values-is, w.in-None.is) w.first_half-in-None.ensures.values
    ] in
    lent_on_coset field g.F.TwoAdicField.generator s k c.twiddles.result.now table g.met.F.TwoAdicField.roots_law
    (omega (arith, c.requires.table, c.twiddles.ensures.within))
    g.C.BlockConsumer.step c.args.first_row c.args.width (source_of c.args.source c.args.values.now)
    c.match-source.values c.last_half.new.values c.args.consumer.now c.last_half.result c.last_half.new.consumer
    first c.last_half.ensures.lent

pub returns-clause-cost : goal.returns-clause-cost
returns-clause-cost g c =
    let k = c.args.log_h in
    let mid = mid_of k in
    let first : RisesAtMost (2 ^ (k - mid) * (c.args.width * (mid * 2 ^ mid / 2))) c.args.products.now c.match-source.products =
    elim c.match-source.branch [ in-Some w ↦ rw w.products-is w.first_half.ensures.cost | in-None w ↦ rw w.products-is w.first_half-in-None.ensures.cost ] in
    both_counted k c.args.width _ _ _ first c.last_half.ensures.cost
