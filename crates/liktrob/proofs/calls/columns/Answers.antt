use Rattle.std.proofs.Common.{◌<◌, ◌∙◌, ap, le_of_eq, le_refl, subst, sym, Some, None}
use Rattle.std.specs.Prelude.{⊤}
use Rattle.std.proofs.lemmas.Slice.Zip.{AllZip-long}
use Rattle.p3_matrix.proofs.Rooms.{either_larger}
use Rattle.p3_dft.proofs.Calls.Shapes.{input_fits}
use Rattle.liktrob.specs.Words.{HasInverse, in_words}
use Rattle.liktrob.proofs.ColumnShifts.{all_invertible, refusal_told, told_by_columns}
use Rattle.liktrob.proofs.Named.{out_of_memory_told}
use Rattle.liktrob.proofs.Shapes.{named_fits, named_high, no_more, whole_rows}
use Rattle.liktrob.proofs.calls.columns.Goals as goal

pub asked-requires : goal.asked-requires
asked-requires g c = λ fit. (whole_rows fit, no_more fit)

pub returns-in_err-engine-clause-told : goal.returns-in_err-engine-clause-told
returns-in_err-engine-clause-told g c =
    let f =
    in_words g.F.Valued g.F.TwoAdicField.generator g.F.TwoAdicField.TWO_ADICITY g.F.CanonicalField.ORDER_U64 g.F.WordField.word_number in
    let s = c.from_word-shift.result in
    let t = c.from_word-step.result in
    let last = c.mul-last.result in
    let shift_below = c.is_below.ensures.0 c.if-not-is_below.false in
    let step_below = c.is_below-2.ensures.0 c.if-not-is_below-2.false in
    let named_shift = c.from_word-shift.ensures shift_below in
    let named_step = c.from_word-step.ensures step_below in
    let last_is = g.met.F.Field.mul_law _ _ _ c.mul-last.ensures ∙ ap (g.F.Valued.ring.mul (g.F.Valued.value s)) c.exp_u64.ensures in
    let last_below =
    subst (λ n. n < g.F.CanonicalField.ORDER_U64) (sym c.to_word.ensures) (g.met.F.CanonicalField.number_below_law last) in
    refusal_told _ _ _ _ _ c.from_residual.result c.in_err-engine.field-0.0 c.from_residual.ensures
    (told_by_columns f g.met.F.Field.number_law c.args.shift c.args.step c.to_word.result s t last
    named_shift named_step c.to_word.ensures c.args.width c.saturating_sub.result last_is c.saturating_sub.ensures
    _ _ _ c.args.words.now (Some c.in_err-engine.field-0.0) c.undoes_shifts.result _ c.undoes_shifts.ensures shift_below step_below last_below
    (λ fit. fit.fits.width) c.in_err-engine.ensures.told)

pub answer_columns_by-requires-clause-fits : goal.answer_columns_by-requires-clause-fits
answer_columns_by-requires-clause-fits g c =
    let read = c.in_ok-engine in
    input_fits _ _ _ 0 (named_fits _ c.args.words.now read.mat read.ensures.width read.ensures.entries read.ensures.told.2)

pub answer_columns_by-requires-clause-invertible : goal.answer_columns_by-requires-clause-invertible
answer_columns_by-requires-clause-invertible g c = λ undoes j inside.
    let f =
    in_words g.F.Valued g.F.TwoAdicField.generator g.F.TwoAdicField.TWO_ADICITY g.F.CanonicalField.ORDER_U64 g.F.WordField.word_number in
    let s = c.from_word-shift.result in
    let t = c.from_word-step.result in
    let last = c.mul-last.result in
    let shift_below = c.is_below.ensures.0 c.if-not-is_below.false in
    let step_below = c.is_below-2.ensures.0 c.if-not-is_below-2.false in
    let named_shift = c.from_word-shift.ensures shift_below in
    let named_step = c.from_word-step.ensures step_below in
    let last_is = g.met.F.Field.mul_law _ _ _ c.mul-last.ensures ∙ ap (g.F.Valued.ring.mul (g.F.Valued.value s)) c.exp_u64.ensures in
    let read = c.in_ok-engine in
    let has : HasInverse f c.to_word.result = rw (c.undoes_shifts.ensures ∙ undoes) at read.ensures.told.3 in
    all_invertible f g.met.F.Field.number_law c.args.shift c.args.step c.to_word.result s t last
    named_shift named_step c.to_word.ensures c.args.width c.saturating_sub.result last_is c.saturating_sub.ensures
    has j (subst (λ n. j < n) read.ensures.width inside)

pub returns-in_err-answer_columns_by-clause-told : goal.returns-in_err-answer_columns_by-clause-told
returns-in_err-answer_columns_by-clause-told g c =
    let f =
    in_words g.F.Valued g.F.TwoAdicField.generator g.F.TwoAdicField.TWO_ADICITY g.F.CanonicalField.ORDER_U64 g.F.WordField.word_number in
    let s = c.from_word-shift.result in
    let t = c.from_word-step.result in
    let last = c.mul-last.result in
    let shift_below = c.is_below.ensures.0 c.if-not-is_below.false in
    let step_below = c.is_below-2.ensures.0 c.if-not-is_below-2.false in
    let named_shift = c.from_word-shift.ensures shift_below in
    let named_step = c.from_word-step.ensures step_below in
    let last_is = g.met.F.Field.mul_law _ _ _ c.mul-last.ensures ∙ ap (g.F.Valued.ring.mul (g.F.Valued.value s)) c.exp_u64.ensures in
    let last_below =
    subst (λ n. n < g.F.CanonicalField.ORDER_U64) (sym c.to_word.ensures) (g.met.F.CanonicalField.number_below_law last) in
    let told =
    told_by_columns f g.met.F.Field.number_law c.args.shift c.args.step c.to_word.result s t last
    named_shift named_step c.to_word.ensures c.args.width c.saturating_sub.result last_is c.saturating_sub.ensures
    _ _ (λ _. ⊤) c.args.words.now None c.undoes_shifts.result _ c.undoes_shifts.ensures shift_below step_below last_below
    (λ fit. fit.fits.width) c.in_ok-engine.ensures.told in
    let read = c.in_ok-engine in
    let long = AllZip-long _ c.args.words.now read.mat.values read.ensures.entries in
    out_of_memory_told c.from_residual-in_err-answer_columns_by.result _ _ c.from_residual-in_err-answer_columns_by.ensures
    told.0 told.1 told.2 told.3
    (either_larger _ _ _ _ (le_refl _) (le_of_eq long) _ _ _ (le_refl _) _ c.in_err-answer_columns_by.ensures.refused)

pub returns-clause-told : goal.returns-clause-told
returns-clause-told g c =
    let f =
    in_words g.F.Valued g.F.TwoAdicField.generator g.F.TwoAdicField.TWO_ADICITY g.F.CanonicalField.ORDER_U64 g.F.WordField.word_number in
    let s = c.from_word-shift.result in
    let t = c.from_word-step.result in
    let last = c.mul-last.result in
    let shift_below = c.is_below.ensures.0 c.if-not-is_below.false in
    let step_below = c.is_below-2.ensures.0 c.if-not-is_below-2.false in
    let named_shift = c.from_word-shift.ensures shift_below in
    let named_step = c.from_word-step.ensures step_below in
    let last_is = g.met.F.Field.mul_law _ _ _ c.mul-last.ensures ∙ ap (g.F.Valued.ring.mul (g.F.Valued.value s)) c.exp_u64.ensures in
    let last_below =
    subst (λ n. n < g.F.CanonicalField.ORDER_U64) (sym c.to_word.ensures) (g.met.F.CanonicalField.number_below_law last) in
    told_by_columns f g.met.F.Field.number_law c.args.shift c.args.step c.to_word.result s t last
    named_shift named_step c.to_word.ensures c.args.width c.saturating_sub.result last_is c.saturating_sub.ensures
    _ _ (λ _. ⊤) c.args.words.now None c.undoes_shifts.result _ c.undoes_shifts.ensures shift_below step_below last_below
    (λ fit. fit.fits.width) c.in_ok-engine.ensures.told

pub returns-clause-size : goal.returns-clause-size
returns-clause-size g c =
    let read = c.in_ok-engine in
    c.in_ok-answer_columns_by.ensures.size ∙ AllZip-long _ c.args.words.now read.mat.values read.ensures.entries

pub returns-clause-answer : goal.returns-clause-answer
returns-clause-answer g c = λ answer told.
    let shift_below = c.is_below.ensures.0 c.if-not-is_below.false in
    let step_below = c.is_below-2.ensures.0 c.if-not-is_below-2.false in
    let read = c.in_ok-engine in
    let fit = read.ensures.told.2 in
    record {
      log = fit.fits.log;
      asked = read.mat;
      by = c.from_word-shift.result;
      then_by = c.from_word-step.result;
      named = record {
        width = read.ensures.width;
        height = named_high _ c.args.words.now read.mat read.ensures.width read.ensures.entries fit;
        entries = read.ensures.entries;
        coset = c.from_word-shift.ensures shift_below;
      };
      step_named = c.from_word-step.ensures step_below;
      found = c.in_ok-answer_columns_by.field-0;
      answers = c.in_ok-answer_columns_by.ensures.answer;
      told = told;
    }
