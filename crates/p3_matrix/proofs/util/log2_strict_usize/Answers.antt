use Rattle.p3_matrix.proofs.Lemmas.{◌≡◌, ◌^◌, sym, ap, ◌∙◌, arith, log_unique}
use Rattle.p3_matrix.proofs.util.log2_strict_usize.Goals as goal

pub returns-clause-power : goal.returns-clause-power
returns-clause-power c =
    let (k, is) = c.requires in
    let same : c.ilog2.result ≡ k =
    log_unique c.ilog2.result k (omega (arith, is, c.ilog2.ensures.power_le))
    (omega (arith, is, c.ilog2.ensures.next_power_gt)) in
    is ∙ ap (λ m. 2 ^ m) (sym same)
