use Rattle.liktrob.proofs.calls.answer_columns.Goals as goal

pub returns-in-Ok-clause-answer : goal.returns-in-Ok-clause-answer
returns-in-Ok-clause-answer g c = λ _. c.in-Ok.ensures.answer c.write.new.words (rw c.values.ensures.values at c.write.ensures)
