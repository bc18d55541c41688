use Rattle.p3_field.proofs.Lemmas.{refl, koala_bear_numbers, listed_generator}
use Rattle.p3_field.proofs.koala_bear.KoalaBearNumbersNumbers.generator_number.Goals as goal

pub returns : goal.returns
returns c = listed_generator koala_bear_numbers _ refl c.args.bits c.requires
