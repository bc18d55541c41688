use Rattle.p3_dft.proofs.Lemmas.{sym, ap, as_stored, dft_of_same, degree_told, Encoder}
use Rattle.p3_dft.proofs.reed_solomon.ReedSolomon.is_codeword.Goals as goal

pub returns-clause-exact : goal.returns-clause-exact
returns-clause-exact g c =
    degree_told g.F.Valued g.F.TwoAdicField.generator c.args.word.now c.in_ok-coefficients.coefficients _ _ c.requires.points
    (rw (sym c.self.view_is) (rw c.in_ok-try_clone.ensures.copy at c.in_ok-coefficients.ensures.coefficients)) _ c.has_degree_below.result
    (rw c.message_height-message_height.ensures at c.has_degree_below.ensures)

pub returns-clause-code : goal.returns-clause-code
returns-clause-code g c = ap (λ (e : Encoder g.row.F.Denot g.row.D.Denot). e.code) c.self.view_is

pub coset_idft_batch-requires-clause-fits : goal.coset_idft_batch-requires-clause-fits
coset_idft_batch-requires-clause-fits g c = rw c.in_ok-try_clone.ensures.copy c.requires.fits

pub returns-clause-engine : goal.returns-clause-engine
returns-clause-engine g c =
    rw (sym c.self.view_is) (dft_of_same 2 c.in_ok-try_clone.ensures.copy
    (as_stored c.in_ok-coefficients.ensures.engine))
