use Rattle.p3_matrix.proofs.Lemmas.{◌≡◌, ◌^◌, ◌<◌, length, sym, ap, ◌∙◌, arith, reversed_rows, height, row, rev-lt, log_of_height}
use Rattle.p3_matrix.proofs.ReversedRows.{reversed_row, reversed_row_length}
use Rattle.p3_matrix.proofs.bitrev.BitReversedMatrixView+RowMajorMatrix+T.row.Goals as goal

pub reverse_bits_len-requires : goal.reverse_bits_len-requires
reverse_bits_len-requires g c =
    let m = c.self.inside.inner in
    let whole = c.values-whole.ensures.whole in
    let size : length m.values < 2 ^ 64 = omega (arith, ap length c.values-whole.ensures.values, c.values-whole.type_inv.0) in
    log_of_height c.self.inside.bits (height m) m.width (length m.values) c.self.invariant whole.width whole.full size

pub row-requires : goal.row-requires
row-requires g c = rw c.reverse_bits_len.ensures (rw c.self.invariant (rev-lt c.self.inside.bits c.args.i))

pub returns : goal.returns
returns g c =
    let m = c.self.inside.inner in
    let n = c.self.inside.bits in
    let whole = c.values-whole.ensures.whole in
    let asks = rw (← c.self.view_is) at c.requires in
    let below : c.args.i < 2 ^ n = omega (arith, asks, c.self.invariant) in
    let is : c.row.result.now ≡ row (reversed_rows n m) c.args.i =
    c.row.ensures ∙ ap (row m) c.reverse_bits_len.ensures
    ∙ sym (reversed_row n m whole c.self.invariant c.args.i below) in
    rw (← c.self.view_is) (record { row = is; width = ap length is ∙ reversed_row_length n m whole c.self.invariant c.args.i below })
