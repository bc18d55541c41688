use Rattle.p3_networks.proofs.Lemmas.{◌≡◌, ◌+◌, ◌*◌, ◌-◌, ◌^◌, leb, length, ap, ap₂, ◌∙◌, ◌≤◌, lit≤, arith, add-one, pow-le-pow_right, room_of, pow_pos, power}
use Rattle.p3_networks.proofs.Lemmas.{mid_of, AreTwiddlesOfLayers, coset_twiddles, forward_root, layer_place, one_more_layer, at_end}
use Rattle.p3_networks.proofs.radix_2_dit_parallel.coset_tables.coset_layers.Goals as goal

pub loop-l-preserved : goal.loop-l-preserved
loop-l-preserved g c =
    let field = g.F.Valued in
    let l = c.loop-l.l in
    let log = c.args.log_h in
    let reversed = leb (mid_of log) l in
    let longer = c.in_ok-push_layer.ensures.size in
    let twice : 2 ^ (l + 1) ≡ 2 * 2 ^ l = ap (λ n. 2 ^ n) (add-one l) ∙ omega arith in
    let some = pow_pos l in
    record {
      full = omega (arith, longer, c.loop-l.invariant.full, twice, some);
      layers =
          one_more_layer field (λ i t. coset_twiddles field (forward_root field g.F.TwoAdicField.generator)
          (field.value c.args.shift) log i (layer_place (leb (mid_of log) i) i t)) l
          c.loop-l.twiddles.items c.push_layer.new.twiddles.items c.loop-l.invariant.full c.loop-l.invariant.layers longer c.in_ok-push_layer.ensures.before
          (λ t below.
          c.in_ok-push_layer.ensures.entries t below
          ∙ ap₂ (λ x y. field.ring.mul x (power field.ring y (layer_place reversed l t))) c.exp_power_of_2-first.ensures c.two_adic_generator-root.ensures);
    }

pub returns-clause-size : goal.returns-clause-size
returns-clause-size g c =
    at_end (λ l. length c.loop-l.twiddles.items ≡ 2 ^ l - 1) c.loop-l.l c.args.log_h c.loop-l.auto.l-end
    c.loop-l-test.false c.loop-l.invariant.full

pub returns-clause-table : goal.returns-clause-table
returns-clause-table g c =
    let field = g.F.Valued in
    let log = c.args.log_h in
    at_end (λ n. AreTwiddlesOfLayers field n (λ i t. coset_twiddles field
    (forward_root field g.F.TwoAdicField.generator) (field.value c.args.shift) log i
    (layer_place (leb (mid_of log) i) i t)) c.loop-l.twiddles.items)
    c.loop-l.l log c.loop-l.auto.l-end c.loop-l-test.false c.loop-l.invariant.layers

pub returns-in_err-push_layer-clause-room : goal.returns-in_err-push_layer-clause-room
returns-in_err-push_layer-clause-room g c =
    let most : 2 ^ (c.loop-l.l + 1) ≤ 2 ^ c.args.log_h = pow-le-pow_right {n = 2} (lit≤ tt) (omega (arith, c.loop-l-test.true)) in
    let twice : 2 ^ (c.loop-l.l + 1) ≡ 2 * 2 ^ c.loop-l.l = ap (λ k. 2 ^ k) (add-one c.loop-l.l) ∙ omega arith in
    room_of _ c.from_residual-in_err-push_layer.result _ _ _ c.from_residual-in_err-push_layer.ensures
    (omega (arith, most, twice, c.loop-l.invariant.full, pow_pos c.loop-l.l)) c.in_err-push_layer.ensures.room
