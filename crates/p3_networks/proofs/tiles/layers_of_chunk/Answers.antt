use Rattle.p3_networks.proofs.Lemmas.{◌≡◌, ℕ, ◌+◌, ◌*◌, ◌-◌, length, get_or, ap, ◌∙◌, subst, arith, RisesAtMost, DoesLayers, TakesCells, cells_of, layer_of}
use Rattle.p3_networks.proofs.Lemmas.{costly_layer_more, at_end, layer_more}
use Rattle.p3_networks.proofs.tiles.layers_of_chunk.Goals as goal

pub loop-done-init : goal.loop-done-init
loop-done-init g c = record { cells = record { taken = λ k cells layers room holds. holds }; cost = record { grows = omega arith; cost = omega arith } }

pub loop-done-preserved : goal.loop-done-preserved
loop-done-preserved g c =
    let field = g.F.Valued in
    let order = g.D.NetworkDecimation.order in
    let meet_near = g.D.Decimation.near field.Element field.ring field.value c.args.decimation in
    let meet_far = g.D.Decimation.far field.Element field.ring field.value c.args.decimation in
    let entry = λ (b : ℕ). field.value (get_or c.args.twiddles.now b field.zero) in
    let now = c.loop-done.values in
    let new = c.layer_of_chunk.new.values in
    let len : length now ≡ length c.args.values.now = c.loop-done.auto.values in
    let log_half : c.layer-log_half.result ≡ layer_of order c.args.from c.args.top c.loop-done.done =
    c.layer-log_half.ensures.layer
    ∙ ap (λ o. layer_of o c.args.from c.args.top c.loop-done.done) c.order-order.ensures in
    record {
      cells =
          layer_more field.value field.zero c.args.width c.args.top c.args.number (λ b. meet_near (entry b))
          (λ b. meet_far (entry b)) order c.args.from c.args.top c.loop-done.done c.args.values.now now new
          c.loop-done-test.true len c.loop-done.invariant.cells
          (subst (λ (e : ℕ). DoesLayers field order meet_near meet_far c.args.twiddles.now c.args.width c.args.top
          c.args.number e (e + 1) now new) log_half c.layer_of_chunk.ensures.cells);
      cost =
          costly_layer_more g.D.Decimation.cost c.loop-done.done (length c.args.values.now) c.args.products.now
          c.loop-done.products c.layer_of_chunk.new.products c.loop-done.invariant.cost
          (subst (λ (n : ℕ). RisesAtMost (g.D.Decimation.cost * n) (2 * c.loop-done.products)
          (2 * c.layer_of_chunk.new.products)) len c.layer_of_chunk.ensures.cost);
    }

pub returns : goal.returns
returns g c =
    let field = g.F.Valued in
    let order = g.D.NetworkDecimation.order in
    let entry = λ (b : ℕ). field.value (get_or c.args.twiddles.now b field.zero) in
    let l = c.loop-done in
    record {
      cells = at_end (λ n. TakesCells field.value field.value field.zero order c.args.width c.args.top c.args.number
          (λ b. g.D.Decimation.near field.Element field.ring field.value c.args.decimation (entry b))
          (λ b. g.D.Decimation.far field.Element field.ring field.value c.args.decimation (entry b))
          (cells_of order c.args.from c.args.top 0) (cells_of order c.args.from c.args.top n) c.args.values.now
          l.values) l.done (c.args.top - c.args.from) l.auto.done-end c.loop-done-test.false l.invariant.cells;
      cost =
          at_end (λ n. RisesAtMost (g.D.Decimation.cost * (n * length c.args.values.now)) (2 * c.args.products.now)
          (2 * l.products)) l.done (c.args.top - c.args.from) l.auto.done-end c.loop-done-test.false l.invariant.cost;
    }
