use Rattle.p3_field.proofs.Lemmas.{◌∙◌, ap, halved, power, two}
use Rattle.p3_field.proofs.fields.Field.div_2exp_u64.Goals as goal

pub returns : goal.returns
returns g c =
    let ring = g.Self.Valued.ring in
    let x = g.Self.Valued.value c.args.self in
    ap (ring.mul (power ring (two ring) c.args.n)) (g.met.Self.Field.mul_law _ _ _ c.mul.ensures ∙ ap (ring.mul x) c.exp_u64.ensures)
    ∙ halved ring x _ c.args.n (c.halve.ensures ∙ ap g.Self.Valued.value c.ONE.ensures ∙ g.met.Self.Field.one_law)
