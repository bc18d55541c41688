use Rattle.std.proofs.lemmas.Result.{IfOk-weaker}
use Rattle.p3_matrix.specs.Cosets.{values_of}
use Rattle.p3_dft.proofs.Laws.Codes.{every_word}
use Rattle.p3_dft_tests.proofs.tests.reed_solomon.told_with_no_added_bits.Goals as goal

pub returns : goal.returns
returns g c =
    IfOk-weaker c.is_codeword.result _ _
    (λ told exact. exact.1 (every_word g.F.Valued g.F.TwoAdicField.generator g.met.F.TwoAdicField.roots_law
    c.args.code.now.code c.requires.is_code c.requires.none
    (values_of g.F.Valued c.args.word.now) c.requires.points))
    c.is_codeword.ensures.exact
