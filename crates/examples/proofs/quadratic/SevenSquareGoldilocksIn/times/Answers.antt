use Rattle.std.proofs.Common.{◌*◌, ◌%◌, ap, ◌∙◌}
use Rattle.p3_field.specs.Fields.{goldilocks_modulus}
use Rattle.p3_field.specs.Residues.{residue-eq}
use Rattle.examples.proofs.quadratic.SevenSquareGoldilocksIn.times.Goals as goal

pub returns : goal.returns
returns g c = residue-eq _ _ (c.mul.ensures ∙ ap (λ n. n * c.args.x.number % goldilocks_modulus) c.from.ensures)
