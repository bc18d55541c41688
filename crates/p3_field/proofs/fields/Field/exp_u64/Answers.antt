use Rattle.p3_field.proofs.Lemmas.{◌≡◌, ap, sym, ◌∙◌, arith, power, step-odd, step-even, power-zero}
use Rattle.p3_field.proofs.fields.Field.exp_u64.Goals as goal
use Rattle.p3_field.proofs.fields.Field.exp_u64.Goals.{then-left-eq1, else-left-eq1}

pub loop-left-init : goal.loop-left-init
loop-left-init g c =
    let ring = g.Self.Valued.ring in
    let y = power ring (g.Self.Valued.value c.args.self) c.args.n in
    ap (λ x. ring.mul x y) (ap g.Self.Valued.value c.ONE-product.ensures ∙ g.met.Self.Field.one_law) ∙ ring.mul_comm ring.one y ∙ ring.mul_one y

pub loop-left-preserved : goal.loop-left-preserved
loop-left-preserved g c =
    let r = g.Self.Valued.ring in
    let v = g.Self.Valued.value in
    let square = g.met.Self.Field.mul_law c.loop-left.square c.loop-left.square c.mul-square.result c.mul-square.ensures in
    elim c.if-left-eq1.branch [
      | then-left-eq1 w ↦ step-odd r _ (v c.if-left-eq1.product) _ _ _ c.loop-left.left w.if-left-eq1.true square
          (ap v w.product-is ∙ g.met.Self.Field.mul_law c.loop-left.product c.loop-left.square w.mul-product.result w.mul-product.ensures) c.loop-left.invariant
      | else-left-eq1 w ↦ step-even r (v c.if-left-eq1.product) _ _ _ c.loop-left.left w.if-left-eq1.false square
          (ap (λ p. r.mul (v p) (power r (v c.loop-left.square) c.loop-left.left)) w.product-is ∙ c.loop-left.invariant)
    ]

pub returns : goal.returns
returns g c =
    let r = g.Self.Valued.ring in
    let x = g.Self.Valued.value c.loop-left.product in
    let done : c.loop-left.left ≡ 0 = omega arith in
    sym (r.mul_one x)
    ∙ sym
    (ap (λ n. r.mul x (power r (g.Self.Valued.value c.loop-left.square) n)) done ∙ ap (r.mul x) (power-zero r _))
    ∙ c.loop-left.invariant
