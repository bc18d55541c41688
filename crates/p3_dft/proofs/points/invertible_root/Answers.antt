use Rattle.p3_dft.proofs.Laws.Points.{root_invertible}
use Rattle.p3_dft.proofs.points.invertible_root.Goals as goal

pub returns-clause-invertible : goal.returns-clause-invertible
returns-clause-invertible g c = root_invertible g.F.Valued.ring g.met.F.TwoAdicField.roots_law c.args.bits _ c.two_adic_generator.ensures c.requires
