use Rattle.p3_matrix.proofs.Lemmas.{◌/◌, arith, div-add-mod'}
use Rattle.p3_matrix.proofs.packs.full_packs.Goals as goal

pub returns-clause-whole : goal.returns-clause-whole
returns-clause-whole c = (c.args.size / c.args.width, omega (arith, div-add-mod' c.args.size c.args.width))
