use Rattle.p3_dft.proofs.Laws.TwoCalls.{inverse_of_column}
use Rattle.examples.proofs.linearity.inverses_of_a_column.Goals as goal

pub returns-clause-column : goal.returns-clause-column
returns-clause-column g c =
    inverse_of_column g.F.Valued g.F.TwoAdicField.generator g.met.F.TwoAdicField.roots_law c.args.mat c.args.column c.args.j (g.F.Valued.value c.args.shift)
    c.requires.fits c.requires.inside c.requires.column c.in_ok-whole.whole c.in_ok-one.one c.in_ok-whole.ensures.coefficients c.in_ok-one.ensures.coefficients
