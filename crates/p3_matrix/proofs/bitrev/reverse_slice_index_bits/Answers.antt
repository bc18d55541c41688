use Rattle.p3_matrix.proofs.Lemmas.{◌≡◌, ◌+◌, ◌*◌, get_or, sym, ap, ◌∙◌, lit<, arith, rev, log_same}
use Rattle.p3_matrix.proofs.bitrev.reverse_slice_index_bits.Goals as goal

pub returns-then-size-gt0 : goal.returns-then-size-gt0
returns-then-size-gt0 g c = λ n e d i l.
    let xs = c.args.values.now in
    let ys = c.reverse_chunks.new.values in
    let k = c.log2_strict_usize.result in
    let same : k ≡ n = log_same k n (sym c.log2_strict_usize.ensures.power ∙ e) in
    let at : get_or ys (i * 1 + 0) d ≡ get_or xs (rev n i * 1 + 0) d = rw (← same) (c.reverse_chunks.ensures d i 0 (rw same l) (lit< tt)) in
    let here : i ≡ i * 1 + 0 = omega arith in
    let there : rev n i * 1 + 0 ≡ rev n i = omega arith in
    ap (λ p. get_or ys p d) here ∙ at ∙ ap (λ p. get_or xs p d) there
