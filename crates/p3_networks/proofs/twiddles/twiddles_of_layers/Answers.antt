use Rattle.p3_networks.proofs.Lemmas.{◌≡◌, ◌+◌, ◌*◌, ◌-◌, ◌^◌, length, ap, ap₂, ◌∙◌, ◌≤◌, lit≤, arith, add-one, ℕ, pow-le-pow_right, room_of, pow_pos, power}
use Rattle.p3_networks.proofs.Lemmas.{root_powers, AreTwiddlesOfLayers, one_more_layer, at_end}
use Rattle.p3_field.proofs.Rings
use Rattle.p3_networks.proofs.twiddles.twiddles_of_layers.Goals as goal

full_more : (l before now : ℕ) → before ≡ 2 ^ l - 1 → now ≡ before + 2 ^ l → now ≡ 2 ^ (l + 1) - 1
full_more l before now full longer =
    let twice : 2 ^ (l + 1) ≡ 2 * 2 ^ l = ap (λ n. 2 ^ n) (add-one l) ∙ omega arith in
    omega (arith, longer, full, twice, pow_pos l)

pub loop-l-preserved : goal.loop-l-preserved
loop-l-preserved g c =
    let field = g.F.Valued in
    let l = c.loop-l.l in
    let longer = c.in_ok-push_layer.ensures.size in
    record {
      full = full_more l _ _ c.loop-l.invariant.full longer;
      layers =
          one_more_layer field (root_powers field g.F.TwoAdicField.generator c.args.inverse) l c.loop-l.powers.items
          c.push_layer.new.twiddles.items c.loop-l.invariant.full c.loop-l.invariant.layers longer
          c.in_ok-push_layer.ensures.before
          (λ t below.
          c.in_ok-push_layer.ensures.entries t below
          ∙ ap₂ (λ x y. field.ring.mul x (power field.ring y t)) (ap field.value c.ONE.ensures ∙ g.met.F.Field.one_law) c.root.ensures
          ∙ Rings.one-mul field.ring _);
    }

pub returns-clause-size : goal.returns-clause-size
returns-clause-size g c =
    at_end (λ l. length c.loop-l.powers.items ≡ 2 ^ l - 1) c.loop-l.l c.args.layers c.loop-l.auto.l-end
    c.loop-l-test.false c.loop-l.invariant.full

pub returns-clause-table : goal.returns-clause-table
returns-clause-table g c =
    at_end (λ l. AreTwiddlesOfLayers g.F.Valued l (root_powers g.F.Valued g.F.TwoAdicField.generator c.args.inverse)
    c.loop-l.powers.items) c.loop-l.l c.args.layers c.loop-l.auto.l-end c.loop-l-test.false c.loop-l.invariant.layers

pub returns-in_err-push_layer-clause-room : goal.returns-in_err-push_layer-clause-room
returns-in_err-push_layer-clause-room g c =
    let most : 2 ^ (c.loop-l.l + 1) ≤ 2 ^ c.args.layers = pow-le-pow_right {n = 2} (lit≤ tt) (omega (arith, c.loop-l-test.true)) in
    let twice : 2 ^ (c.loop-l.l + 1) ≡ 2 * 2 ^ c.loop-l.l = ap (λ k. 2 ^ k) (add-one c.loop-l.l) ∙ omega arith in
    room_of _ c.from_residual-in_err-push_layer.result _ _ _ c.from_residual-in_err-push_layer.ensures
    (omega (arith, most, twice, c.loop-l.invariant.full, pow_pos c.loop-l.l)) c.in_err-push_layer.ensures.room
