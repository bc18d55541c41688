-- The fields whose elements callers name by words that are numbers themselves.
use Rattle.std.specs.Prelude.{ℕ}
use Rattle.std.specs.Borrow.{RattleType}
use Rattle.p3_field.specs.Fields.{baby_bear_modulus, baby_bear_numbers, field_generator, goldilocks_generator}
use Rattle.p3_field.specs.Fields.{goldilocks_modulus, koala_bear_modulus, koala_bear_numbers}
use Rattle.p3_field.specs.NamedFields as named
use Rattle.p3_field.specs.contracts.baby_bear.BabyBearNumbers.{the_row as baby_bear_row}
use Rattle.p3_field.specs.contracts.goldilocks.GoldilocksIn.{the_row as goldilocks_row}
use Rattle.p3_field.specs.contracts.goldilocks.ScalarLanes.{the_row as scalar_row}
use Rattle.p3_field.specs.contracts.koala_bear.KoalaBearNumbers.{the_row as koala_bear_row}
use Rattle.p3_field.specs.contracts.residue31.Residue31.{the_row as residue31_row}
use Rattle.p3_field.specs.declared.baby_bear.BabyBearNumbers.{BabyBearNumbers}
use Rattle.p3_field.specs.declared.goldilocks.GoldilocksIn.{GoldilocksIn}
use Rattle.p3_field.specs.declared.goldilocks.ScalarLanes.{ScalarLanes}
use Rattle.p3_field.specs.declared.koala_bear.KoalaBearNumbers.{KoalaBearNumbers}
use Rattle.p3_field.specs.declared.residue31.Residue31.{Residue31}
use Rattle.p3_field.specs.contracts.baby_bear.BabyBearNumbersNumbers.TheImpl.{ghosts as baby_bear_members}
use Rattle.p3_field.specs.contracts.koala_bear.KoalaBearNumbersNumbers.TheImpl.{ghosts as koala_bear_members}
use Rattle.liktrob.specs.Words.{FieldInWords, in_words}

abbrev pub baby_bear : FieldInWords (Residue31 BabyBearNumbers baby_bear_members) ℕ
baby_bear =
    let generator : ℕ → Residue31 BabyBearNumbers baby_bear_members =
    λ bits. record {
      number = (field_generator baby_bear_numbers bits).number;
      of = _;
      below = (field_generator baby_bear_numbers bits).below;
    } in
    in_words named.baby_bear generator 27 baby_bear_modulus (λ n. n)

abbrev pub koala_bear : FieldInWords (Residue31 KoalaBearNumbers koala_bear_members) ℕ
koala_bear =
    let generator : ℕ → Residue31 KoalaBearNumbers koala_bear_members =
    λ bits. record {
      number = (field_generator koala_bear_numbers bits).number;
      of = _;
      below = (field_generator koala_bear_numbers bits).below;
    } in
    in_words named.koala_bear generator 24 koala_bear_modulus (λ n. n)

abbrev pub goldilocks : FieldInWords (GoldilocksIn ScalarLanes) ℕ
goldilocks =
    let generator : ℕ → GoldilocksIn ScalarLanes =
    λ bits. record {
      number = (goldilocks_generator bits).number;
      of = _;
      below = (goldilocks_generator bits).below;
    } in
    in_words named.goldilocks generator 32 goldilocks_modulus (λ n. n)

-- the types of their elements
abbrev pub baby_bear_elements : RattleType
baby_bear_elements = residue31_row baby_bear_row baby_bear_members

abbrev pub koala_bear_elements : RattleType
koala_bear_elements = residue31_row koala_bear_row koala_bear_members

abbrev pub goldilocks_elements : RattleType
goldilocks_elements = goldilocks_row scalar_row
