use Rattle.std.proofs.Common.{ap, map, ◌∙◌}
use Rattle.p3_field.proofs.packed.PackedField.sub_scaled.Goals as goal

pub returns : goal.returns
returns g c = record {
  lanes =
      c.scaled.ensures.lanes
      ∙ ap (map (λ x. g.Self.Scalar.Valued.ring.mul x (g.Self.Scalar.Valued.value c.args.t))) c.sub.ensures;
  count = c.scaled.ensures.count;
}
