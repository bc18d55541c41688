use Rattle.std.proofs.Common.{arith, inl}
use Rattle.dft_program.proofs.Refused.{told_by}
use Rattle.dft_program.proofs.Told.{on_err, untold, too_short}
use Rattle.dft_program.proofs.words.word_at.Goals as goal

pub returns-in_err-resize-in-Err-TooLong-clause-refused : goal.returns-in_err-resize-in-Err-TooLong-clause-refused
returns-in_err-resize-in-Err-TooLong-clause-refused g c =
    let same = untold _ _ _ _ _ c.in-Err-TooLong.is c.in-Err-TooLong.field-0-is c.word.ensures.told c.loop-count.invariant.untold in
    let long = too_short _ _ _ c.in-Err-TooLong.is c.in-Err-TooLong.field-0-is c.word.ensures.too_short in
    on_err c.from_residual-in_err-resize-in-Err-TooLong.result
    (inl (same, told_by 1 _ _ (omega arith) (omega (arith, long)) c.in_err-resize-in-Err-TooLong.ensures.room))
