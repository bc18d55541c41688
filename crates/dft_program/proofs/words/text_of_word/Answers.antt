use Rattle.dft_program.proofs.Told.{text_of}
use Rattle.dft_program.proofs.words.text_of_word.Goals as goal

pub returns : goal.returns
returns c = rw c.unwrap_or.ensures (text_of c.args.word c.from_utf8.result c.new.result c.from_utf8.ensures.ok c.from_utf8.ensures.succeeds c.new.ensures.bytes)
