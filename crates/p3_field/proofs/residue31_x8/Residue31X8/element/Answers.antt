use Rattle.p3_field.proofs.Lemmas.{◌<◌, place_inside, Each1-get_or}
use Rattle.p3_field.proofs.residue31_x8.Residue31X8.element.Goals as goal

pub invariant_of-result : goal.invariant_of-result
invariant_of-result g c = record {
  below =
      Each1-get_or (λ n. n < g.N.Numbers.numbers.modulus) c.args.self.lanes c.args.lane 0
      (place_inside c.args.self.lanes c.args.lane 8 c.args.self.eight c.requires) c.args.self.below;
}
