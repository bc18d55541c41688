use Rattle.p3_dft.proofs.Laws.Points.{square_invertible}
use Rattle.p3_dft.proofs.points.invertible_square.Goals as goal

pub returns-clause-invertible : goal.returns-clause-invertible
returns-clause-invertible g c = square_invertible g.F.Valued.ring (g.F.Valued.value c.args.shift) _ c.square.ensures c.requires
