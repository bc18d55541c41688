-- The fields of NamedFields over types with more lanes: tools/build_library makes exports over these, too, for newer processors.
use Rattle.std.specs.Prelude.{ℕ}
use Rattle.std.specs.Borrow.{RattleType}
use Rattle.std.below.core.specs.contracts.clone.Clone+copy.TheImpl.{ghosts as copied, dict as copied_dict}
use Rattle.p3_field.specs.Fields.{baby_bear_modulus, baby_bear_numbers, field_generator, goldilocks_generator}
use Rattle.p3_field.specs.Fields.{goldilocks_modulus, koala_bear_modulus, koala_bear_numbers}
use Rattle.p3_field.specs.NamedFields as named
use Rattle.p3_field.specs.contracts.baby_bear.BabyBearNumbers.{the_row as baby_bear_row}
use Rattle.p3_field.specs.contracts.baby_bear.BabyBearNumbersNumbers.TheImpl.{ghosts as baby_bear_members, dict as baby_bear_dict}
use Rattle.p3_field.specs.contracts.goldilocks.GoldilocksIn.{the_row as goldilocks_row}
use Rattle.p3_field.specs.contracts.goldilocks.VectorLanes.{the_row as vector_row}
use Rattle.p3_field.specs.contracts.koala_bear.KoalaBearNumbers.{the_row as koala_bear_row}
use Rattle.p3_field.specs.contracts.koala_bear.KoalaBearNumbersNumbers.TheImpl.{ghosts as koala_bear_members, dict as koala_bear_dict}
use Rattle.p3_field.specs.contracts.residue31.Residue31.{the_row as residue31_row}
use Rattle.p3_field.specs.contracts.sixteen_lanes.SixteenLanes.{the_row as sixteen_row}
use Rattle.p3_field.specs.contracts.sixteen_lanes.SixteenLanesNumbers.TheImpl.{ghosts as sixteen_members}
use Rattle.p3_field.specs.declared.baby_bear.BabyBearNumbers.{BabyBearNumbers}
use Rattle.p3_field.specs.declared.goldilocks.GoldilocksIn.{GoldilocksIn}
use Rattle.p3_field.specs.declared.goldilocks.VectorLanes.{VectorLanes}
use Rattle.p3_field.specs.declared.koala_bear.KoalaBearNumbers.{KoalaBearNumbers}
use Rattle.p3_field.specs.declared.residue31.Numbers.{Ghosts as NumberMembers}
use Rattle.p3_field.specs.declared.residue31.Residue31.{Residue31}
use Rattle.p3_field.specs.declared.sixteen_lanes.SixteenLanes.{SixteenLanes}
use Rattle.liktrob.specs.Words.{FieldInWords, in_words}

abbrev baby_bear_lanes : NumberMembers (SixteenLanes BabyBearNumbers)
baby_bear_lanes = sixteen_members baby_bear_row baby_bear_members baby_bear_dict (copied baby_bear_row) (copied_dict baby_bear_row)

abbrev koala_bear_lanes : NumberMembers (SixteenLanes KoalaBearNumbers)
koala_bear_lanes = sixteen_members koala_bear_row koala_bear_members koala_bear_dict (copied koala_bear_row) (copied_dict koala_bear_row)

abbrev pub baby_bear : FieldInWords (Residue31 (SixteenLanes BabyBearNumbers) baby_bear_lanes) ℕ
baby_bear =
    let generator : ℕ → Residue31 (SixteenLanes BabyBearNumbers) baby_bear_lanes =
    λ bits. record {
      number = (field_generator baby_bear_numbers bits).number;
      of = _;
      below = (field_generator baby_bear_numbers bits).below;
    } in
    in_words named.wide_baby_bear generator 27 baby_bear_modulus (λ n. n)

abbrev pub koala_bear : FieldInWords (Residue31 (SixteenLanes KoalaBearNumbers) koala_bear_lanes) ℕ
koala_bear =
    let generator : ℕ → Residue31 (SixteenLanes KoalaBearNumbers) koala_bear_lanes =
    λ bits. record {
      number = (field_generator koala_bear_numbers bits).number;
      of = _;
      below = (field_generator koala_bear_numbers bits).below;
    } in
    in_words named.wide_koala_bear generator 24 koala_bear_modulus (λ n. n)

abbrev pub goldilocks : FieldInWords (GoldilocksIn VectorLanes) ℕ
goldilocks =
    let generator : ℕ → GoldilocksIn VectorLanes =
    λ bits. record {
      number = (goldilocks_generator bits).number;
      of = _;
      below = (goldilocks_generator bits).below;
    } in
    in_words named.wide_goldilocks generator 32 goldilocks_modulus (λ n. n)

-- the types of their elements
abbrev pub baby_bear_elements : RattleType
baby_bear_elements = residue31_row (sixteen_row baby_bear_row) baby_bear_lanes

abbrev pub koala_bear_elements : RattleType
koala_bear_elements = residue31_row (sixteen_row koala_bear_row) koala_bear_lanes

abbrev pub goldilocks_elements : RattleType
goldilocks_elements = goldilocks_row vector_row
