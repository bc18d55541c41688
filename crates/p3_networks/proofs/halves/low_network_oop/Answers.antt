use Rattle.p3_networks.proofs.Lemmas.{◌≡◌, ℕ, ◌+◌, ◌*◌, ◌-◌, ◌^◌, ◌<◌, get_or, refl, sym, ap, ◌∙◌, subst, arith, rev, RisesAtMost, halves_whole, layer_counted}
use Rattle.p3_networks.proofs.Lemmas.{layers_counted, two_halves, done_shift, low_begun, low_done, low_first, low_layer, one_shifted}
use Rattle.p3_networks.proofs.halves.low_network_oop.Goals as goal

pairs_are : (k : ℕ) → 0 < k → k < 64 → one_shifted (k - 1) ≡ 2 ^ (k - 1)
pairs_are k some small = done_shift k (k - 1) (omega (arith, some)) small

-- the rows are pairs
pairs_whole : (k : ℕ) → 0 < k → 2 ^ k ≡ 2 ^ (k - 1) * (2 * 1)
pairs_whole k some = two_halves k (λ e. absurd (omega (arith, e, some))) ∙ omega arith

cells_of_pairs : (k w : ℕ) → 0 < k → k < 64 → 2 ^ k * w ≡ one_shifted (k - 1) * (2 * w)
cells_of_pairs k w some small = rw (pairs_are k some small) (ap (λ n. n * w) (pairs_whole k some) ∙ omega arith)

pub first_layer_oop-requires-clause-source : goal.first_layer_oop-requires-clause-source
first_layer_oop-requires-clause-source g c =
    c.requires.source ∙ c.requires.rows.size
    ∙ cells_of_pairs c.args.log_h c.args.width (omega (arith, c.if-log_h-eq0.false)) c.requires.rows.fits_u64

pub first_layer_oop-requires-clause-size : goal.first_layer_oop-requires-clause-size
first_layer_oop-requires-clause-size g c =
    c.requires.rows.size
    ∙ cells_of_pairs c.args.log_h c.args.width (omega (arith, c.if-log_h-eq0.false)) c.requires.rows.fits_u64

pub first_layer_oop-requires-clause-table : goal.first_layer_oop-requires-clause-table
first_layer_oop-requires-clause-table g c = c.requires.table 0 (omega (arith, c.if-log_h-eq0.false))

pub loop-l-init : goal.loop-l-init
loop-l-init g c =
    let field = g.F.Valued in
    let k = c.args.log_h in
    let w = c.args.width in
    let some : 0 < k = omega (arith, c.if-log_h-eq0.false) in
    let pairs = one_shifted (k - 1) in
    let are : pairs ≡ 2 ^ (k - 1) = pairs_are k some c.requires.rows.fits_u64 in
    let cells : pairs * w ≡ 2 ^ (k - 1) * w = ap (λ n. n * w) are in
    record {
      rows = λ root s roots layers j r inside below.
          let cell = λ (n : ℕ). field.value (get_or c.args.source.now n field.zero) in
          low_first field root s k w roots pairs (g.T.LayerTwiddles.at c.args.table) (λ q. cell (rev k q * w + j)) cell
          (λ n. field.value (get_or c.first_layer_oop.new.values n field.zero))
          some (rw are (sym (pairs_whole k some))) layers c.first_layer_oop.ensures.cells j inside
          (λ u v. low_begun field root s k w cell j u v) r below;
      cost = record { grows = c.first_layer_oop.ensures.cost.grows; cost = omega (arith, c.first_layer_oop.ensures.cost.cost, cells) };
    }

pub loop-l-preserved : goal.loop-l-preserved
loop-l-preserved g c =
    let field = g.F.Valued in
    let l = c.loop-l.l in
    let k = c.args.log_h in
    let w = c.args.width in
    let whole = halves_whole k l c.loop-l-test.true in
    record {
      rows = λ root s roots layers j r inside below.
          low_layer field root s k w roots l (2 ^ l) (2 ^ (k - 1 - l)) (g.T.LayerTwiddles.at c.args.table)
          (λ u. field.value (get_or c.args.source.now (rev k u * w + j) field.zero))
          (λ n. field.value (get_or c.loop-l.values n field.zero)) (λ n. field.value (get_or c.one_low_layer.new.values n field.zero))
          c.loop-l-test.true refl whole layers c.one_low_layer.ensures.cells j inside
          (λ u v. c.loop-l.invariant.rows root s roots layers j u inside v) r below;
      cost = record {
        grows = omega (arith, c.loop-l.invariant.cost.grows, c.one_low_layer.ensures.cost.grows);
        cost =
            layer_counted 1 k l w (2 ^ (k - 1 - l)) (2 ^ l) c.args.products.now c.loop-l.products
            c.one_low_layer.new.products c.loop-l-test.true whole c.loop-l.invariant.cost.cost
            c.one_low_layer.ensures.cost.cost;
      };
    }

pub returns-then-log_h-eq0-clause-values : goal.returns-then-log_h-eq0-clause-values
returns-then-log_h-eq0-clause-values g c root s roots layers r j q p =
    let field = g.F.Valued in
    let k = c.args.log_h in
    let w = c.args.width in
    rw c.copy_from_slice.ensures.after
    (low_done field root s k w 0 _ _ r (sym c.if-log_h-eq0.true)
    (low_begun field root s k w (λ n. field.value (get_or c.args.source.now n field.zero)) j r q) q)

pub returns-after-loop-l-clause-values : goal.returns-after-loop-l-clause-values
returns-after-loop-l-clause-values g c root s roots layers r j q p =
    let field = g.F.Valued in
    low_done field root s c.args.log_h c.args.width c.loop-l.l _ _ r (omega arith) (c.loop-l.invariant.rows root s roots layers j r p q) q

pub returns-after-loop-l-clause-cost : goal.returns-after-loop-l-clause-cost
returns-after-loop-l-clause-cost g c =
    let k = c.args.log_h in
    let w = c.args.width in
    let e : c.loop-l.l ≡ k = omega arith in
    subst (λ (n : ℕ). RisesAtMost n c.args.products.now c.loop-l.products)
    (ap (λ n. 1 * (n * (2 ^ (k - 1) * w))) e ∙ layers_counted k w) c.loop-l.invariant.cost
