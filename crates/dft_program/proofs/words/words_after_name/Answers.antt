use Rattle.std.proofs.Common.{[], ap, sym, append-nil, length, arith}
use Rattle.std.specs.String.{string_bytes}
use Rattle.std.specs.Vec.{vec_items}
use Rattle.dft_program.proofs.Told.{on_err, one_kept, refused_kept, refused_next}
use Rattle.dft_program.proofs.Refused.{told_by}
use Rattle.dft_program.proofs.words.words_after_name.Goals as goal

pub returns-in_err-word-clause-memory : goal.returns-in_err-word-clause-memory
returns-in_err-word-clause-memory g c =
    let told = g.L.CommandLine.told in
    on_err c.from_residual-in_err-word.result
    (refused_next string_bytes (told c.args.line.now) (told c.loop-buffer.line) (told c.word_at.new.line)
    c.loop-buffer.texts.items (length c.as_slice.result.now)
    c.loop-buffer.invariant.kept (ap length c.as_slice.ensures.value) (g.L.CommandLine.too_short c.word_at.new.line)
    c.in_err-word.ensures.refused)

pub loop-buffer-preserved : goal.loop-buffer-preserved
loop-buffer-preserved g c =
    let told = g.L.CommandLine.told in
    record {
      room = c.word_at.ensures.room;
      kept = rw c.in_ok-push.ensures.items (one_kept string_bytes (told c.args.line.now) (told c.loop-buffer.line)
          (told c.word_at.new.line) c.loop-buffer.texts.items (length c.as_slice.result.now)
          c.loop-buffer.invariant.kept (ap length c.as_slice.ensures.value) vec_items c.in_ok-word.field-0
          c.in-Some.word c.in_ok-word.ensures.word c.in-Some.is c.text_of_word.result c.text_of_word.ensures);
    }

pub returns-in_err-push-clause-memory : goal.returns-in_err-push-clause-memory
returns-in_err-push-clause-memory g c =
    let told = g.L.CommandLine.told in
    let many = ap length c.as_slice.ensures.value in
    on_err c.from_residual-in_err-push.result
    (refused_kept string_bytes (told c.args.line.now) (told c.loop-buffer.line) (told c.word_at.new.line)
    c.loop-buffer.texts.items (length c.as_slice.result.now) c.loop-buffer.invariant.kept many vec_items c.in_ok-word.field-0
    c.in-Some.word c.in_ok-word.ensures.word c.in-Some.is (g.L.CommandLine.too_short c.word_at.new.line)
    (told_by _ _ _ (omega arith) (omega (arith, many)) c.in_err-push.ensures.room))

pub returns-in_err-resize-clause-memory : goal.returns-in_err-resize-clause-memory
returns-in_err-resize-clause-memory g c =
    on_err c.from_residual.result (
      [],
      sym (append-nil (g.L.CommandLine.told c.args.line.now)),
      told_by 1 _ _ (omega arith) (omega arith) c.in_err-resize.ensures.room,
    )
