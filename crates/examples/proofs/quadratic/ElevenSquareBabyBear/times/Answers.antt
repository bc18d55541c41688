use Rattle.std.proofs.Common.{◌*◌, ◌%◌, ap, ◌∙◌}
use Rattle.p3_field.specs.Fields.{baby_bear_modulus}
use Rattle.p3_field.specs.Residues.{residue-eq}
use Rattle.examples.proofs.quadratic.ElevenSquareBabyBear.times.Goals as goal

pub returns : goal.returns
returns c = residue-eq _ _ (c.mul.ensures ∙ ap (λ n. n * c.args.x.number % baby_bear_modulus) c.from.ensures)
