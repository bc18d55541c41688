use Rattle.dft_program.proofs.Shapes.{unfit, fits_lde-decides}
use Rattle.dft_program.proofs.arguments.is_unfit.Goals as goal

pub returns-clause-test : goal.returns-clause-test
returns-clause-test g c =
    unfit _ c.args.count c.args.width c.args.added_bits c.fits_lde.result c.if-width-eq0.false c.if-count-width-ne0.false
    (fits_lde-decides _ _ _ _ c.fits_lde.result c.fits_lde.ensures)
