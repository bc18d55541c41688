use Rattle.p3_matrix.proofs.Lemmas.{◌≡◌, length, sym, ap, ◌∙◌, ◌/◌, refl, log_same, written_size}
use Rattle.p3_matrix.proofs.HalfReversed.{reversed_rows}
use Rattle.p3_matrix.proofs.bitrev.reverse_matrix_index_bits.Goals as goal

pub returns-then-height-gt0-clause-rows : goal.returns-then-height-gt0-clause-rows
returns-then-height-gt0-clause-rows g c = λ n e.
    let same : c.log2_strict_usize.result ≡ n =
    log_same c.log2_strict_usize.result n
    (sym c.log2_strict_usize.ensures.power ∙ c.height-height.ensures.height ∙ e) in
    let at = rw (same, c.values_mut.ensures.values, c.width-width.ensures.width) at c.reverse_chunks.ensures in
    reversed_rows n c.args.view.now.matrix.now c.reverse_chunks.new.values (c.reverse_chunks.auto.values ∙ ap length c.values_mut.ensures.values) e at

pub returns-then-height-gt0-clause-shape : goal.returns-then-height-gt0-clause-shape
returns-then-height-gt0-clause-shape g c = (
  ap (λ n. n / c.args.view.now.matrix.now.width) (written_size c.args.view.now.matrix.now.values
      c.reverse_chunks.new.values (c.reverse_chunks.auto.values ∙ ap length c.values_mut.ensures.values)),
  refl,
)

pub returns-then-height-gt0-clause-size : goal.returns-then-height-gt0-clause-size
returns-then-height-gt0-clause-size g c =
    written_size c.args.view.now.matrix.now.values c.reverse_chunks.new.values
    (c.reverse_chunks.auto.values ∙ ap length c.values_mut.ensures.values)
