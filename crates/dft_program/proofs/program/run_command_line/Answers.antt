use Rattle.std.proofs.Common.{◌≡◌, map, inl, inr, ⊎_elim}
use Rattle.std.specs.String.{string_bytes}
use Rattle.dft_program.specs.Words.{text_of_word}
use Rattle.dft_program.proofs.Texts.{outcome_of_words, refused_words}
use Rattle.dft_program.proofs.program.run_command_line.Goals as goal

pub returns-in-Ok-clause-ended : goal.returns-in-Ok-clause-ended
returns-in-Ok-clause-ended g c is =
    let read = c.in-Ok.ensures.all in
    let texts = map string_bytes c.as_slice.result.now in
    let are : texts ≡ map text_of_word read.0 = rw c.as_slice.ensures.value read.2 in
    let written = c.run.ensures.ended is in
    (read.0, written.0, read.1, outcome_of_words read.0 texts _ are written.1, written.2)

pub returns-in-Ok-clause-memory : goal.returns-in-Ok-clause-memory
returns-in-Ok-clause-memory g c is =
    let read = c.in-Ok.ensures.all in
    let texts = map string_bytes c.as_slice.result.now in
    let are : texts ≡ map text_of_word read.0 = rw c.as_slice.ensures.value read.2 in
    let told = c.run.ensures.memory is in
    (inr (read.0, read.1, refused_words read.0 texts are told.0), told.1)

pub returns-in-Ok-clause-stopped : goal.returns-in-Ok-clause-stopped
returns-in-Ok-clause-stopped g c is =
    let read = c.in-Ok.ensures.all in
    let texts = map string_bytes c.as_slice.result.now in
    let are : texts ≡ map text_of_word read.0 = rw c.as_slice.ensures.value read.2 in
    ⊎_elim (λ cut. inl (read.0, cut.0, read.1, outcome_of_words read.0 texts cut.0 are cut.1, cut.2))
    (λ cut. inr (inr (read.0, read.1, refused_words read.0 texts are cut.0), cut.1)) (c.run.ensures.stopped is)
