use Rattle.p3_field.proofs.Lemmas.{refl, baby_bear_numbers, listed_generator}
use Rattle.p3_field.proofs.baby_bear.BabyBearNumbersNumbers.generator_number.Goals as goal

pub returns : goal.returns
returns c = listed_generator baby_bear_numbers _ refl c.args.bits c.requires
