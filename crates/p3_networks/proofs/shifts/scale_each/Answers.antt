use Rattle.p3_networks.proofs.Lemmas.{◌≡◌, ℕ, ◌<◌, get_or, length, refl, sym, ap, ap₂, ◌∙◌, arith, subst, get_or-set_other, get_or_default, next_written}
use Rattle.p3_field.proofs.PowerLists.{first_power, next_power}
use Rattle.p3_networks.proofs.Layers.Scalings.{factor}
use Rattle.p3_networks.proofs.shifts.scale_each.Goals as goal

pub loop-i-init : goal.loop-i-init
loop-i-init g c =
    record {
      next = first_power g.F.Valued.ring _ _;
      done = λ k below. absurd (omega (arith, below));
      rest = λ k after. refl;
      count = omega arith;
    }

pub loop-i-preserved : goal.loop-i-preserved
loop-i-preserved g c =
    let field = g.F.Valued in
    let l = c.loop-i in
    let i = l.i in
    let xs = c.args.values.now in
    let want = λ (k : ℕ). field.ring.mul (field.value (get_or xs k field.zero)) (factor field.ring (field.value c.args.first) (field.value c.args.base) k) in
    let below : i < length l.values = subst (λ n. i < n) (sym l.auto.values) c.loop-i-test.true in
    let entry : field.value c.index-values-i.result ≡ field.value (get_or xs i field.zero) =
    ap field.value (c.index-values-i.is ∙ get_or_default l.values i _ field.zero below ∙ l.invariant.rest i (omega arith)) in
    record {
      next = next_power field.ring _ _ _ _ i l.invariant.next (g.met.F.Field.mul_law _ _ _ c.mul-factor.ensures);
      done =
          next_written field.value field.zero want l.values i c.scaled.result below l.invariant.done
          (c.scaled.ensures.value ∙ ap₂ field.ring.mul entry l.invariant.next);
      rest =
          λ k after. get_or-set_other l.values i k c.scaled.result field.zero (λ same. absurd (omega (arith, same, after)))
          ∙ l.invariant.rest k (omega (arith, after));
      count = omega (arith, l.invariant.count, c.scaled.ensures.count);
    }
