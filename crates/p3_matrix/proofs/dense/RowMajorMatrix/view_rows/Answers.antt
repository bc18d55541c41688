use Rattle.p3_matrix.proofs.Lemmas.{arith, rules, length, Fits-le, rows_within, whole_part}
use Rattle.p3_matrix.proofs.dense.RowMajorMatrix.view_rows.Goals as goal

pub slice_bounds-new-end : goal.slice_bounds-new-end
slice_bounds-new-end g c =
    let asks = rw (← c.self.view_is) at c.requires in
    omega (arith, rows_within c.args.start c.args.count _ c.self.inside.width _ asks c.self.invariant.full, c.deref.ensures.len)

pub new-requires-clause-full : goal.new-requires-clause-full
new-requires-clause-full g c =
    let asks = rw (← c.self.view_is) at c.requires in
    let h = rows_within c.args.start c.args.count _ c.self.inside.width _ asks c.self.invariant.full in
    whole_part c.deref.result.now _ c.args.count _ c.self.inside.width c.self.invariant.width (omega arith) (omega (arith, h, c.deref.ensures.len))

pub overflow_add-first : goal.overflow_add-first
overflow_add-first g c =
    let asks = rw (← c.self.view_is) at c.requires in
    Fits-le (rows_within c.args.start c.args.count _ c.self.inside.width (length c.self.inside.values.items) asks c.self.invariant.full) (search rules)
