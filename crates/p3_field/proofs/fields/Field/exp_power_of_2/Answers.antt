use Rattle.p3_field.proofs.Lemmas.{◌∙◌, sym, ap, ◌^◌, le_antisymm, power-double, power-suc, power-zero, power}
use Rattle.p3_field.proofs.fields.Field.exp_power_of_2.Goals as goal

pub loop-i-init : goal.loop-i-init
loop-i-init g c =
    let ring = g.Self.Valued.ring in
    let x = g.Self.Valued.value c.args.self in
    sym (power-suc ring x 0 ∙ ap (ring.mul x) (power-zero ring x) ∙ ring.mul_one x)

pub loop-i-preserved : goal.loop-i-preserved
loop-i-preserved g c =
    g.met.Self.Field.mul_law c.loop-i.power_so_far c.loop-i.power_so_far c.mul-power_so_far.result c.mul-power_so_far.ensures
    ∙ power-double g.Self.Valued.ring _ _ c.loop-i._i c.loop-i.invariant

pub returns : goal.returns
returns g c =
    c.loop-i.invariant
    ∙ ap (λ k. power g.Self.Valued.ring (g.Self.Valued.value c.args.self) (2 ^ k))
    (le_antisymm c.loop-i.auto._i-end c.loop-i-test.false)
