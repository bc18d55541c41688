use Rattle.p3_matrix.proofs.Lemmas.{length, ap, ◌∙◌, ◌/◌, refl, swapped_column, exchanged_rows, chunks_apart, written_size}
use Rattle.p3_matrix.proofs.util.swap_rows.Goals as goal

pub exchange-requires-clause-apart : goal.exchange-requires-clause-apart
exchange-requires-clause-apart g c = rw c.width-width.ensures.width (chunks_apart c.args.i c.args.j _ c.if-i-j.true)

pub returns-then-i-j-clause-rows : goal.returns-then-i-j-clause-rows
returns-then-i-j-clause-rows g c =
    let m = c.args.view.now.matrix.now in
    let ys = c.exchange.new.values in
    let e = rw (c.values_mut.ensures.values, c.width-width.ensures.width) at c.exchange.ensures in
    exchanged_rows m ys c.args.i c.args.j (c.exchange.auto.values ∙ ap length c.values_mut.ensures.values)
    (λ k d l. swapped_column m.values ys c.args.i c.args.j m.width k d e l)

pub returns-then-i-j-clause-shape : goal.returns-then-i-j-clause-shape
returns-then-i-j-clause-shape g c = (
  ap (λ n. n / c.args.view.now.matrix.now.width) (written_size c.args.view.now.matrix.now.values
      c.exchange.new.values (c.exchange.auto.values ∙ ap length c.values_mut.ensures.values)),
  refl,
)

pub returns-then-i-j-clause-size : goal.returns-then-i-j-clause-size
returns-then-i-j-clause-size g c =
    written_size c.args.view.now.matrix.now.values c.exchange.new.values
    (c.exchange.auto.values ∙ ap length c.values_mut.ensures.values)
