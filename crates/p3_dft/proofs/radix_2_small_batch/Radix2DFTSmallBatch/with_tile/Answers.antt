use Rattle.p3_dft.proofs.Lemmas.{◌≡◌, sym, ◌∙◌, arith, log_same}
use Rattle.p3_dft.proofs.radix_2_small_batch.Radix2DFTSmallBatch.with_tile.Goals as goal

pub prepare-requires-clause-within : goal.prepare-requires-clause-within
prepare-requires-clause-within g c =
    let (k, is, within) = c.requires.height c.if-n-le1.false in
    let same : c.log2_strict_usize.result ≡ k = log_same _ _ (sym c.log2_strict_usize.ensures.power ∙ is) in
    omega (arith, same, within)
