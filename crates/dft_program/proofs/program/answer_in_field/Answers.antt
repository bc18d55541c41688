use Rattle.std.proofs.Common.{lit<, map, refl, arith, subst, sym}
use Rattle.std.specs.String.{string_bytes}
use Rattle.p3_field.specs.Fields.{baby_bear_modulus, goldilocks_modulus}
use Rattle.p3_field.specs.Residues.{residue_of}
use Rattle.dft_program.specs.declared.names.FieldName.{FieldName}
use Rattle.dft_program.specs.Outcome.{Gives, IsOutcomeIn}
use Rattle.dft_program.proofs.program.answer_in_field.Goals as goal

pub returns-in-BabyBear : goal.returns-in-BabyBear
returns-in-BabyBear c =
    subst (λ (field : FieldName). Gives c.answer_in.result
    (IsOutcomeIn field c.args.request.operation (map string_bytes c.args.words.now))) (sym c.in-BabyBear.is)
    (c.answer_in.ensures (residue_of baby_bear_modulus (lit< tt) refl) (λ n below. omega arith))

pub returns-in-Goldilocks : goal.returns-in-Goldilocks
returns-in-Goldilocks c =
    subst (λ (field : FieldName). Gives c.answer_in-in-Goldilocks.result
    (IsOutcomeIn field c.args.request.operation (map string_bytes c.args.words.now))) (sym c.in-Goldilocks.is)
    (c.answer_in-in-Goldilocks.ensures (residue_of goldilocks_modulus (lit< tt) refl) (λ n below. omega arith))
