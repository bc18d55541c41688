use Rattle.p3_dft.proofs.Lemmas.{arith, log_of_usize}
use Rattle.p3_dft.proofs.reed_solomon.ReedSolomon.word_height.Goals as goal

pub overflow_add-result : goal.overflow_add-result
overflow_add-result g c = omega (arith, log_of_usize _ c.self.invariant.size)

pub overflow_shl-result : goal.overflow_shl-result
overflow_shl-result g c = omega (arith, log_of_usize _ c.self.invariant.size)
