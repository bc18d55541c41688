use Rattle.p3_field.proofs.Lemmas.{◌≡◌, Bool, true, false, not, ap, sym, ◌∙◌, get_or, below_more, lt_of_lt_of_le, MatchBool, get_or_read, first_product-none}
use Rattle.p3_field.proofs.Lemmas.{first_product-more, invertible_factors}
use Rattle.p3_field.proofs.batch_inverse.first_without_inverse.Goals as goal

pub loop-i-init : goal.loop-i-init
loop-i-init g c = first_product-none g.F.Valued.ring _ _ (ap g.F.Valued.value c.ONE-product.ensures ∙ g.met.F.Field.one_law)

pub loop-i-preserved : goal.loop-i-preserved
loop-i-preserved g c =
    let ring = g.F.Valued.ring in
    let value = g.F.Valued.value in
    let is = get_or_read c.args.x.now _ _ c.loop-i-test.true c.index-x-i.is g.F.Valued.zero in
    first_product-more ring _ c.loop-i.i _ _ c.loop-i.invariant
    (g.met.F.Field.mul_law _ _ _ c.mul-product.ensures ∙ ap (λ x. ring.mul (value c.loop-i.product) (value x)) is)

there : (P Q : Type 0) (b : Bool) → MatchBool b P Q → b ≡ true → P
there P Q true found is = found
there P Q false found is = cc

pub returns-then-is_some-clause-all : goal.returns-then-is_some-clause-all
returns-then-is_some-clause-all g c = λ none i below.
    let ring = g.F.Valued.ring in
    let whole = there _ _ _ c.try_inverse.ensures.found (sym c.is_some.ensures ∙ c.if-is_some.true) in
    invertible_factors ring (λ j. g.F.Valued.value (get_or c.args.x.now j g.F.Valued.zero)) c.loop-i.i
    (whole.0, ap (λ z. ring.mul z whole.0) (sym c.loop-i.invariant) ∙ whole.1) i (lt_of_lt_of_le below c.loop-i-test.false)

pub loop-i-2-preserved : goal.loop-i-2-preserved
loop-i-2-preserved g c =
    let value = g.F.Valued.value in
    let here = there _ _ _ c.try_inverse-in-loop-i-2.ensures.found (c.is_none.ensures ∙ ap not c.if-is_none.false) in
    let is = get_or_read c.args.x.now _ _ c.loop-i-2-test.true c.index-x-i-in-loop-i-2.is g.F.Valued.zero in
    below_more _ _ c.loop-i-2.invariant (here.0, ap (λ z. g.F.Valued.ring.mul (value z) here.0) (sym is) ∙ here.1)
