use Rattle.p3_field.specs.Residues.{residue-eq}
use Rattle.p3_field.proofs.residue31.Residue31TwoAdicField.two_adic_generator.Goals as goal

pub returns : goal.returns
returns g c = residue-eq _ _ c.generator_number.ensures
