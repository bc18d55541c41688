use Rattle.p3_field.proofs.Lemmas.{ℕ, suc, ◌≡◌, ◌-◌, ◌<◌, ap, ◌∙◌, get_or, length, lt_of_lt_of_le, arith, rules, get_or_read, next_written, first_product-none}
use Rattle.p3_field.proofs.Lemmas.{first_product-more, invertible_product, inverse_of_last, inverse_before, still_before, one_more_done}
use Rattle.p3_field.proofs.batch_inverse.batch_multiplicative_inverse_to.Goals as goal

pub loop-i-init : goal.loop-i-init
loop-i-init g c = record {
  product = first_product-none g.F.Valued.ring _ _ (ap g.F.Valued.value c.ONE-product.ensures ∙ g.met.F.Field.one_law);
  before = λ j below. absurd (omega (arith, below));
  count = omega arith;
}

pub loop-i-preserved : goal.loop-i-preserved
loop-i-preserved g c =
    let ring = g.F.Valued.ring in
    let value = g.F.Valued.value in
    let zero = g.F.Valued.zero in
    let is = get_or_read c.args.x.now _ _ c.loop-i-test.true c.index-x-i.is zero in
    let now = c.loop-i.invariant in
    record {
      product =
          first_product-more ring _ c.loop-i.i _ _ now.product
          (c.counted_product-product.ensures.value ∙ ap (λ x. ring.mul (value c.loop-i.product) (value x)) is);
      before = next_written value zero _ c.loop-i.inverses c.loop-i.i c.loop-i.product (search rules) now.before now.product;
      count = omega (arith, now.count, c.counted_product-product.ensures.count);
    }

pub inverse-inverse-requires : goal.inverse-inverse-requires
inverse-inverse-requires g c =
    let ring = g.F.Valued.ring in
    let values : ℕ → g.F.Valued.Element = λ j. g.F.Valued.value (get_or c.args.x.now j g.F.Valued.zero) in
    let whole = invertible_product ring values c.loop-i.i (λ j below. c.requires.invertible j (lt_of_lt_of_le below c.loop-i.auto.i-end)) in
    (whole.0, ap (λ z. ring.mul z whole.0) c.loop-i.invariant.product ∙ whole.1)

pub loop-i-2-preserved : goal.loop-i-2-preserved
loop-i-2-preserved g c =
    let ring = g.F.Valued.ring in
    let value = g.F.Valued.value in
    let zero = g.F.Valued.zero in
    let now = c.loop-i-2.inverses in
    let n = c.loop-i-2.i in
    let i = n - 1 in
    let values : ℕ → g.F.Valued.Element = λ j. value (get_or c.args.x.now j zero) in
    let next : n ≡ suc i = omega (arith, c.loop-i-2-test.true) in
    let inside : i < length now = omega (arith, c.loop-i-2-test.true, c.loop-i-2.auto.i, c.loop-i-2.auto.inverses, c.requires.size) in
    let inside_x : i < length c.args.x.now = omega (arith, c.loop-i-2-test.true, c.loop-i-2.auto.i) in
    let is = ap value (get_or_read c.args.x.now i _ inside_x c.index-x-i-in-loop-i-2.is zero) in
    let past = c.loop-i-2.invariant in
    let before = ap value (get_or_read now i _ inside c.index-inverses-i.is zero) ∙ past.before i (omega (arith, next)) in
    record {
      inverse =
          inverse_before ring values n i (value c.loop-i-2.inverse) _ next past.inverse
          (c.counted_product-inverse.ensures.value ∙ ap (ring.mul (value c.loop-i-2.inverse)) is);
      before = still_before ring value zero values now n i _ next past.before;
      done =
          one_more_done ring value zero values now n i _ next _ inside past.done
          (inverse_of_last ring values n i _ (value c.index-inverses-i.result) _ next past.inverse before c.counted_product.ensures.value);
      count = omega (arith, next, past.count, c.counted_product.ensures.count, c.counted_product-inverse.ensures.count);
    }
