use Rattle.p3_dft.proofs.Laws.TwoCalls.{exponent_within}
use Rattle.examples.proofs.sizes.generator_of.Goals as goal

pub two_adic_generator-requires : goal.two_adic_generator-requires
two_adic_generator-requires g c = exponent_within c.args.log_height c.requires.fits c.requires.height
