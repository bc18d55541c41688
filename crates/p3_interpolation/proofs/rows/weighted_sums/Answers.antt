use Rattle.std.proofs.Common.{◌≡◌, ◌+◌, ◌*◌, ◌++◌, length, get_or, replicate, sym, ap, ◌∙◌}
use Rattle.std.proofs.Math.ListN.{length-replicate}
use Rattle.p3_matrix.proofs.Rows.Padding.{copy_at}
use Rattle.p3_matrix.proofs.Rows.Overwritten.{written}
use Rattle.p3_interpolation.proofs.rows.weighted_sums.Goals as goal

pub add_weighted_rows-requires-clause-sums : goal.add_weighted_rows-requires-clause-sums
add_weighted_rows-requires-clause-sums g c =
    let n = c.args.columns * c.args.width in
    let z = g.F.Valued.zero in
    let zeros : c.as_mut_slice.result.now ≡ replicate n z =
    c.as_mut_slice.ensures.value ∙ c.in_ok-extend_by_zeros.ensures.ok
    ∙ ap (λ xs. xs ++ replicate n z) c.new-sums.ensures.items in
    ap length zeros ∙ length-replicate n z

pub add_weighted_rows-requires-clause-zero : goal.add_weighted_rows-requires-clause-zero
add_weighted_rows-requires-clause-zero g c i inside =
    let f = g.F.Valued in
    let n = c.args.columns * c.args.width in
    let zeros : c.as_mut_slice.result.now ≡ replicate n f.zero =
    c.as_mut_slice.ensures.value ∙ c.in_ok-extend_by_zeros.ensures.ok
    ∙ ap (λ xs. xs ++ replicate n f.zero) c.new-sums.ensures.items in
    ap (λ xs. f.value (get_or xs i f.zero)) zeros ∙ ap f.value (copy_at n i f.zero) ∙ ap f.value (sym g.met.F.Field.same_zero) ∙ g.met.F.Field.zero_law

pub returns : goal.returns
returns g c =
    let f = g.F.Valued in
    let n = c.args.columns * c.args.width in
    let zeros : c.as_mut_slice.result.now ≡ replicate n f.zero =
    c.as_mut_slice.ensures.value ∙ c.in_ok-extend_by_zeros.ensures.ok
    ∙ ap (λ xs. xs ++ replicate n f.zero) c.new-sums.ensures.items in
    let same = written _ c.add_weighted_rows.new.sums _ (c.add_weighted_rows.auto.sums ∙ c.as_mut_slice.ensures.len) in
    record {
      long = ap length same ∙ c.add_weighted_rows.auto.sums ∙ ap length zeros ∙ length-replicate n f.zero;
      sums = λ t j below inside. ap (λ xs. f.value (get_or xs (t * c.args.width + j) f.zero)) same ∙ c.add_weighted_rows.ensures.sums t j below inside;
      count = c.add_weighted_rows.ensures.count;
      room = tt;
    }
