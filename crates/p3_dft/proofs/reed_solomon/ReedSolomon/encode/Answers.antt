use Rattle.p3_dft.proofs.Lemmas.{sym, refl, as_stored}
use Rattle.p3_dft.proofs.Laws.Codes.{one_codeword, word_of_extension}
use Rattle.p3_dft.proofs.reed_solomon.ReedSolomon.encode.Goals as goal

pub returns : goal.returns
returns g c =
    rw (sym c.self.view_is)
    (record {
      extension = rw c.to_row_major_matrix.ensures c.in_ok-values.ensures.values;
      codeword =
          word_of_extension g.F.Valued g.F.TwoAdicField.generator (record {
            log_message = c.self.inside.log_message;
            added_bits = c.self.inside.added_bits;
            shift = c.self.inside.shift;
          }) c.args.mat c.to_row_major_matrix.result (rw (sym c.self.view_is) at c.requires.message)
          (rw c.to_row_major_matrix.ensures c.in_ok-values.ensures.values);
      distance =
          λ other word. one_codeword g.F.Valued g.F.TwoAdicField.generator g.met.F.TwoAdicField.roots_law (record {
            log_message = c.self.inside.log_message;
            added_bits = c.self.inside.added_bits;
            shift = c.self.inside.shift;
          }) c.self.invariant other _ word
          (word_of_extension g.F.Valued g.F.TwoAdicField.generator (record {
            log_message = c.self.inside.log_message;
            added_bits = c.self.inside.added_bits;
            shift = c.self.inside.shift;
          }) c.args.mat c.to_row_major_matrix.result (rw (sym c.self.view_is) at c.requires.message)
          (rw c.to_row_major_matrix.ensures c.in_ok-values.ensures.values));
      code = refl;
      engine = as_stored c.in_ok-values.ensures.engine;
    })
