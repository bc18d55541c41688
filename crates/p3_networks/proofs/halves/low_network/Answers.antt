use Rattle.p3_networks.proofs.Lemmas.{◌≡◌, ℕ, ◌+◌, ◌*◌, ◌-◌, ◌^◌, get_or, refl, ap, ◌∙◌, subst, arith, rev, RisesAtMost, halves_whole, layer_counted}
use Rattle.p3_networks.proofs.Lemmas.{layers_counted, low_begun, low_done, low_layer}
use Rattle.p3_networks.proofs.halves.low_network.Goals as goal

pub loop-l-init : goal.loop-l-init
loop-l-init g c =
    let field = g.F.Valued in
    record {
      rows = λ root s roots table j r h q. low_begun field root s c.args.log_h c.args.width (λ n. field.value (get_or c.args.values.now n field.zero)) j r q;
      cost = record { grows = omega arith; cost = omega arith };
    }

pub loop-l-preserved : goal.loop-l-preserved
loop-l-preserved g c =
    let field = g.F.Valued in
    let l = c.loop-l.l in
    let k = c.args.log_h in
    let w = c.args.width in
    let whole = halves_whole k l c.loop-l-test.true in
    record {
      rows = λ root s roots layers j r inside below.
          low_layer field root s k w roots l (2 ^ l) (2 ^ (k - 1 - l)) (g.T.LayerTwiddles.at c.args.table)
          (λ u. field.value (get_or c.args.values.now (rev k u * w + j) field.zero))
          (λ n. field.value (get_or c.loop-l.values n field.zero)) (λ n. field.value (get_or c.one_low_layer.new.values n field.zero))
          c.loop-l-test.true refl whole layers c.one_low_layer.ensures.cells j inside
          (λ u v. c.loop-l.invariant.rows root s roots layers j u inside v) r below;
      cost = record {
        grows = omega (arith, c.loop-l.invariant.cost.grows, c.one_low_layer.ensures.cost.grows);
        cost =
            layer_counted 1 k l w (2 ^ (k - 1 - l)) (2 ^ l) c.args.products.now c.loop-l.products
            c.one_low_layer.new.products c.loop-l-test.true whole c.loop-l.invariant.cost.cost
            c.one_low_layer.ensures.cost.cost;
      };
    }

pub returns-clause-values : goal.returns-clause-values
returns-clause-values g c root s roots layers r j q p =
    let field = g.F.Valued in
    low_done field root s c.args.log_h c.args.width c.loop-l.l _ _ r (omega arith) (c.loop-l.invariant.rows root s roots layers j r p q) q

pub returns-clause-cost : goal.returns-clause-cost
returns-clause-cost g c =
    let k = c.args.log_h in
    let w = c.args.width in
    let e : c.loop-l.l ≡ k = omega arith in
    subst (λ (n : ℕ). RisesAtMost n c.args.products.now c.loop-l.products)
    (ap (λ n. 1 * (n * (2 ^ (k - 1) * w))) e ∙ layers_counted k w) c.loop-l.invariant.cost
