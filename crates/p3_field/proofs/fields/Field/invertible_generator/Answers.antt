use Rattle.p3_field.proofs.Lemmas.{sym, subst, IsInvertible}
use Rattle.p3_field.proofs.fields.Field.invertible_generator.Goals as goal

pub returns : goal.returns
returns g c = record {
  same = c.GENERATOR.ensures;
  invertible =
      subst (λ x. IsInvertible g.Self.Valued.ring (g.Self.Valued.value x)) (sym c.GENERATOR.ensures)
      g.met.Self.Field.generator_law;
}
