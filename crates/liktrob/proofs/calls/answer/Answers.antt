use Rattle.std.proofs.Common.{ℕ, ◌*◌, ◌^◌, ◌∙◌, sym, ap₂, le_refl, le_of_eq}
use Rattle.std.proofs.lemmas.Slice.Zip.{AllZip-long}
use Rattle.p3_matrix.proofs.Rooms.{either_larger}
use Rattle.liktrob.proofs.Named.{out_of_memory_told}
use Rattle.liktrob.proofs.Shapes.{named_fits, named_high, no_more, whole_rows}
use Rattle.liktrob.proofs.calls.answer.Goals as goal

pub asked-requires : goal.asked-requires
asked-requires g c = λ fit. (whole_rows fit, no_more fit)

pub answer_by-requires-clause-fits : goal.answer_by-requires-clause-fits
answer_by-requires-clause-fits g c =
    let read = c.in_ok-engine in
    rw (sym c.added_bits.ensures) (named_fits _ c.args.words.now read.mat read.ensures.width read.ensures.entries read.ensures.told.2)

pub returns-in_err-answer_by-clause-told : goal.returns-in_err-answer_by-clause-told
returns-in_err-answer_by-clause-told g c =
    let read = c.in_ok-engine in
    let told = read.ensures.told in
    let long = AllZip-long _ c.args.words.now read.mat.values read.ensures.entries in
    let size = ap₂ (λ (n a : ℕ). n * 2 ^ a) long (sym c.added_bits.ensures) ∙ sym told.2.room in
    out_of_memory_told c.from_residual-in_err-answer_by.result _ _ c.from_residual-in_err-answer_by.ensures told.0
    told.1 (rw c.added_bits.ensures at told.2) (rw c.undoes_shift.ensures at told.3)
    (either_larger _ _ _ _ (le_refl _) (le_of_eq size) _ _ _ (le_refl _) _ c.in_err-answer_by.ensures.refused)

pub returns-clause-size : goal.returns-clause-size
returns-clause-size g c =
    let read = c.in_ok-engine in
    let long = AllZip-long _ c.args.words.now read.mat.values read.ensures.entries in
    c.in_ok-answer_by.ensures.size ∙ ap₂ (λ (n a : ℕ). n * 2 ^ a) long (sym c.added_bits.ensures) ∙ sym read.ensures.told.2.room

pub returns-clause-answer : goal.returns-clause-answer
returns-clause-answer g c = λ answer told.
    let read = c.in_ok-engine in
    let fit = read.ensures.told.2 in
    let high = named_high _ c.args.words.now read.mat read.ensures.width read.ensures.entries fit in
    record {
      log = fit.fits.log;
      asked = read.mat;
      by = read.shift;
      named = record { width = read.ensures.width; height = high; entries = read.ensures.entries; coset = read.ensures.coset };
      found = c.in_ok-answer_by.field-0;
      answers = c.in_ok-answer_by.ensures.answer fit.fits.log high;
      told = told;
    }
