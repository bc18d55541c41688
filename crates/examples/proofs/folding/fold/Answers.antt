use Rattle.std.proofs.Common.{suc, ◌+◌, ◌/◌, get_or, length, ap, ◌∙◌, arith}
use Rattle.std.proofs.lemmas.Result.{IfOk-weaker}
use Rattle.p3_matrix.specs.Cosets.{values_of}
use Rattle.p3_dft.proofs.Laws.TwoCalls.{exponent_within}
use Rattle.examples.specs.Foldings.{folded_coefficients}
use Rattle.examples.proofs.FoldedValues.{folded_values, half_height, half_of, rows_by_factors}
use Rattle.examples.proofs.folding.fold.Goals as goal

pub factors-requires-clause-within : goal.factors-requires-clause-within
factors-requires-clause-within g c =
    omega (
      arith,
      (half_height _ _ c.log_height-log_half.ensures.power c.requires.pairs).0,
      c.log_height-log_half.ensures.within,
    )

pub factors-requires-clause-half : goal.factors-requires-clause-half
factors-requires-clause-half g c = omega (arith, (half_height _ _ c.log_height-log_half.ensures.power c.requires.pairs).1, c.height-half.ensures.height)

pub fold_rows-requires-clause-pairs : goal.fold_rows-requires-clause-pairs
fold_rows-requires-clause-pairs g c = omega (arith, (half_height _ _ c.log_height-log_half.ensures.power c.requires.pairs).2, c.height-half.ensures.height)

pub fold_rows-requires-clause-factors : goal.fold_rows-requires-clause-factors
fold_rows-requires-clause-factors g c =
    let half = (half_height _ _ c.log_height-log_half.ensures.power c.requires.pairs).1 in
    omega (arith, half, ap length c.deref.ensures.value, c.in_ok-factors.ensures.long, c.in_ok-factors.factors.ok.0, c.height-half.ensures.height)

pub returns-clause-shape : goal.returns-clause-shape
returns-clause-shape g c =
    let half = (half_height _ _ c.log_height-log_half.ensures.power c.requires.pairs).2 in
    IfOk-weaker c.fold_rows.result _ _ (λ out given. (omega (arith, given.0, half, c.height-half.ensures.height), given.1)) c.fold_rows.ensures.folded

pub returns-clause-folded : goal.returns-clause-folded
returns-clause-folded g c =
    let f = g.F.Valued in
    let roots = g.met.F.TwoAdicField.roots_law in
    IfOk-weaker c.fold_rows.result _ _
    (λ out given k high.
    let half = half_of _ k _ c.log_height-log_half.ensures.power high in
    let power = ap (λ n. n / 2) c.height-half.ensures.height ∙ half.1 in
    let rows = rows_by_factors f.ring roots c.args.layout (f.value c.args.beta) k _ _ (f.value c.args.shift)
    (values_of f c.args.values.now) (values_of f out) _ _
    half.0 power high given.0 given.1 c.in_ok-factors.ensures.factors
    (λ i. ap (λ xs. f.value (get_or xs i f.zero)) c.deref.ensures.value) (given.2 k (f.value c.args.beta) power) in (
      folded_values f.ring roots (f.value c.args.beta) k (f.value c.args.shift) _ _
          (exponent_within (suc k) c.requires.fits high) c.requires.invertible rows,
      rows,
    ))
    c.fold_rows.ensures.folded

pub returns-clause-degree : goal.returns-clause-degree
returns-clause-degree g c =
    IfOk-weaker c.fold_rows.result _ _
    (λ out folded k h high has.
    record {
      coefficients = folded_coefficients g.F.Valued.ring (g.F.Valued.value c.args.beta) has.coefficients;
      height = ap (λ n. (n + 1) / 2) has.height;
      values = (folded k high).0 has.coefficients has.values;
    })
    (returns-clause-folded g c)
