use Rattle.p3_dft.proofs.Lemmas.{sym, arith, one_shl, log_of_usize}
use Rattle.p3_dft.proofs.reed_solomon.ReedSolomon.message_height.Goals as goal

pub overflow_shl-result : goal.overflow_shl-result
overflow_shl-result g c = omega (arith, log_of_usize _ c.self.invariant.size)

pub returns : goal.returns
returns g c = rw (sym c.self.view_is) (one_shl c.self.inside.log_message 64 (omega (arith, log_of_usize _ c.self.invariant.size)))
