use Rattle.p3_matrix.proofs.Lemmas.{zeros_from_bound, Fits-le, rules, bound_within}
use Rattle.p3_matrix.proofs.util.has_degree_below.Goals as goal

pub returns : goal.returns
returns g c =
    zeros_from_bound g.F.Valued c.args.coefficients.now c.args.bound c.min-first.result c.width.ensures.whole
    (rw c.height.ensures.height at c.min-first.ensures) c.are_zeros.result
    (rw (c.values-values.ensures.values, c.width.ensures.width) at c.are_zeros.ensures)

pub overflow_mul-first : goal.overflow_mul-first
overflow_mul-first g c =
    Fits-le (bound_within c.args.coefficients.now c.args.bound c.height.result _ c.width.result
    c.values-values.result.now c.width.ensures.whole c.height.ensures.height c.min-first.ensures c.width.ensures.width
    c.values-values.ensures.values) (search rules)

pub slice_bounds-are_zeros-count : goal.slice_bounds-are_zeros-count
slice_bounds-are_zeros-count g c =
    bound_within c.args.coefficients.now c.args.bound c.height.result _ c.width.result c.values-values.result.now
    c.width.ensures.whole c.height.ensures.height c.min-first.ensures c.width.ensures.width
    c.values-values.ensures.values

pub slice_bounds-are_zeros-start : goal.slice_bounds-are_zeros-start
slice_bounds-are_zeros-start g c =
    bound_within c.args.coefficients.now c.args.bound c.height.result _ c.width.result c.values-values.result.now
    c.width.ensures.whole c.height.ensures.height c.min-first.ensures c.width.ensures.width
    c.values-values.ensures.values

pub offset_bounds-values-first : goal.offset_bounds-values-first
offset_bounds-values-first g c =
    bound_within c.args.coefficients.now c.args.bound c.height.result _ c.width.result c.values-values.result.now
    c.width.ensures.whole c.height.ensures.height c.min-first.ensures c.width.ensures.width
    c.values-values.ensures.values
