-- The members of each named field, as clauses over it name them: `F.Valued.own` of a clause that is generic over the field.
use Rattle.p3_field.specs.declared.fields.Valued.{Ghosts as FieldMembers}
use Rattle.p3_field.specs.declared.residue31.Residue31.{Residue31}
use Rattle.p3_field.specs.declared.baby_bear.BabyBearNumbers.{BabyBearNumbers}
use Rattle.p3_field.specs.declared.goldilocks.GoldilocksIn.{GoldilocksIn}
use Rattle.p3_field.specs.declared.goldilocks.ScalarLanes.{ScalarLanes}
use Rattle.p3_field.specs.declared.goldilocks.VectorLanes.{VectorLanes}
use Rattle.p3_field.specs.declared.koala_bear.KoalaBearNumbers.{KoalaBearNumbers}
use Rattle.p3_field.specs.contracts.baby_bear.BabyBearNumbers.{the_row as baby_bear_row}
use Rattle.p3_field.specs.contracts.baby_bear.BabyBearNumbersNumbers.TheImpl.{ghosts as baby_bear_members, dict as baby_bear_dict}
use Rattle.p3_field.specs.contracts.goldilocks.ScalarLanes.{the_row as scalar_row}
use Rattle.p3_field.specs.contracts.goldilocks.VectorLanes.{the_row as vector_row}
use Rattle.p3_field.specs.contracts.goldilocks.GoldilocksInValued.TheImpl.{ghosts as goldilocks_members}
use Rattle.p3_field.specs.contracts.koala_bear.KoalaBearNumbers.{the_row as koala_bear_row}
use Rattle.p3_field.specs.contracts.koala_bear.KoalaBearNumbersNumbers.TheImpl.{ghosts as koala_bear_members, dict as koala_bear_dict}
use Rattle.p3_field.specs.declared.sixteen_lanes.SixteenLanes.{SixteenLanes}
use Rattle.p3_field.specs.contracts.sixteen_lanes.SixteenLanes.{the_row as sixteen_row}
use Rattle.p3_field.specs.contracts.sixteen_lanes.SixteenLanesNumbers.TheImpl.{ghosts as sixteen_members, dict as sixteen_dict}
use Rattle.p3_field.specs.contracts.sixteen_lanes.SixteenLanesClone.TheImpl.{ghosts as sixteen_clone, dict as sixteen_clone_dict}
use Rattle.p3_field.specs.contracts.residue31.Residue31Valued.TheImpl.{ghosts as residue31_members}
use Rattle.std.below.core.specs.contracts.clone.Clone+copy.TheImpl.{ghosts as copied, dict as copied_dict}

abbrev pub baby_bear : FieldMembers (Residue31 BabyBearNumbers baby_bear_members)
baby_bear = residue31_members baby_bear_row baby_bear_members baby_bear_dict (copied baby_bear_row) (copied_dict baby_bear_row)

abbrev pub koala_bear : FieldMembers (Residue31 KoalaBearNumbers koala_bear_members)
koala_bear = residue31_members koala_bear_row koala_bear_members koala_bear_dict (copied koala_bear_row) (copied_dict koala_bear_row)

abbrev pub goldilocks : FieldMembers (GoldilocksIn ScalarLanes)
goldilocks = goldilocks_members scalar_row (copied scalar_row) (copied_dict scalar_row)

abbrev pub wide_goldilocks : FieldMembers (GoldilocksIn VectorLanes)
wide_goldilocks = goldilocks_members vector_row (copied vector_row) (copied_dict vector_row)

abbrev pub wide_baby_bear : FieldMembers (Residue31 (SixteenLanes BabyBearNumbers) (sixteen_members baby_bear_row
    baby_bear_members baby_bear_dict (copied baby_bear_row) (copied_dict baby_bear_row)))
wide_baby_bear =
    residue31_members (sixteen_row baby_bear_row) (sixteen_members baby_bear_row baby_bear_members baby_bear_dict
    (copied baby_bear_row) (copied_dict baby_bear_row))
    (sixteen_dict baby_bear_row baby_bear_members baby_bear_dict (copied baby_bear_row) (copied_dict baby_bear_row))
    (sixteen_clone baby_bear_row baby_bear_members baby_bear_dict (copied baby_bear_row) (copied_dict baby_bear_row))
    (sixteen_clone_dict baby_bear_row baby_bear_members baby_bear_dict (copied baby_bear_row) (copied_dict baby_bear_row))

abbrev pub wide_koala_bear : FieldMembers (Residue31 (SixteenLanes KoalaBearNumbers) (sixteen_members koala_bear_row
    koala_bear_members koala_bear_dict (copied koala_bear_row) (copied_dict koala_bear_row)))
wide_koala_bear =
    residue31_members (sixteen_row koala_bear_row) (sixteen_members koala_bear_row koala_bear_members koala_bear_dict
    (copied koala_bear_row) (copied_dict koala_bear_row))
    (sixteen_dict koala_bear_row koala_bear_members koala_bear_dict (copied koala_bear_row) (copied_dict koala_bear_row))
    (sixteen_clone koala_bear_row koala_bear_members koala_bear_dict (copied koala_bear_row) (copied_dict koala_bear_row))
    (sixteen_clone_dict koala_bear_row koala_bear_members koala_bear_dict (copied koala_bear_row) (copied_dict koala_bear_row))
