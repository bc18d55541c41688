use Rattle.std.proofs.Common.{◌↔◌, ℕ, ◌+◌, ◌/◌, ◌∙◌, IsTrue, sym, subst, arith, le_refl, pow_pos}
use Rattle.p3_matrix.specs.Cosets.{values_of}
use Rattle.p3_dft.specs.Codes.{HasDegreeBelow}
use Rattle.p3_dft.proofs.Laws.Codes.{degree_told}
use Rattle.std.proofs.lemmas.Slice.Zip.{AllZip-long}
use Rattle.p3_matrix.proofs.Rooms.{either_larger}
use Rattle.liktrob.proofs.Named.{out_of_memory_told}
use Rattle.liktrob.proofs.Shapes.{named_fits, named_high, rows_are, whole_rows, word_fits}
use Rattle.liktrob.proofs.calls.has_low_degree.Goals as goal

pub asked-requires : goal.asked-requires
asked-requires g c = λ fit. (whole_rows (word_fits fit), le_refl _)

pub answer_by-requires-clause-fits : goal.answer_by-requires-clause-fits
answer_by-requires-clause-fits g c =
    let read = c.in_ok-engine in
    named_fits _ c.args.words.now read.word read.ensures.width read.ensures.entries (word_fits read.ensures.told.2)

pub returns-in_err-coefficients-clause-told : goal.returns-in_err-coefficients-clause-told
returns-in_err-coefficients-clause-told g c =
    let read = c.in_ok-engine in
    let told = read.ensures.told in
    let long = AllZip-long _ c.args.words.now read.word.values read.ensures.entries in
    out_of_memory_told c.from_residual-in_err-coefficients.result _ _ c.from_residual-in_err-coefficients.ensures told.0
    told.1 (rw c.message_size.ensures at told.2) told.3
    (either_larger _ _ _ _ (le_refl _) (omega (arith, long)) _ _ _ (omega (arith, pow_pos c.args.added_bits)) _ c.in_err-coefficients.ensures.refused)

pub returns-clause-answer : goal.returns-clause-answer
returns-clause-answer g c = λ answer two_valued exact.
    let f = g.F.Valued in
    let roots = g.F.TwoAdicField.generator in
    let read = c.in_ok-engine in
    let fit = read.ensures.told.2 in
    let log = fit.fits.log + c.args.added_bits in
    let s = f.value read.shift in
    let high = named_high _ c.args.words.now read.word read.ensures.width read.ensures.entries (word_fits fit) in
    let told =
    subst (λ (h : ℕ). IsTrue c.has_degree_below.result ↔ HasDegreeBelow f roots h log s (values_of f read.word)) (sym (rows_are fit) ∙ fit.fits.height)
    (degree_told f roots read.word c.in_ok-coefficients.coefficients s log high
    (c.in_ok-coefficients.ensures.answer log high) (c.message_size.result / c.args.width)
    c.has_degree_below.result c.has_degree_below.ensures) in
    record {
      log_message = fit.fits.log;
      word = read.word;
      by = read.shift;
      named = record { width = read.ensures.width; height = high; entries = read.ensures.entries; coset = read.ensures.coset };
      two_valued = two_valued;
      exact = (λ one. told.0 (exact.0 one), λ codeword. exact.1 (told.1 codeword));
    }
