use Rattle.std.proofs.Common.{map, inr}
use Rattle.std.specs.String.{string_bytes}
use Rattle.dft_program.proofs.OneOutcome.{answer_without_memory}
use Rattle.dft_program.proofs.program.run.Goals as goal

pub returns-in-Err-OutOfMemory-clause-memory : goal.returns-in-Err-OutOfMemory-clause-memory
returns-in-Err-OutOfMemory-clause-memory g c is =
    let words = map string_bytes c.args.words.now in
    let told =
    answer_without_memory words c.in-Err-OutOfMemory.field-0 c.answer.result c.in-Err-OutOfMemory.is
    c.in-Err-OutOfMemory.field-0-is c.answer.ensures in
    (told, c.tell_out_of_memory.ensures.memory is)

pub returns-in-Err-OutOfMemory-clause-stopped : goal.returns-in-Err-OutOfMemory-clause-stopped
returns-in-Err-OutOfMemory-clause-stopped g c is =
    let words = map string_bytes c.args.words.now in
    let told =
    answer_without_memory words c.in-Err-OutOfMemory.field-0 c.answer.result c.in-Err-OutOfMemory.is
    c.in-Err-OutOfMemory.field-0-is c.answer.ensures in
    inr (told, c.tell_out_of_memory.ensures.stopped is)
