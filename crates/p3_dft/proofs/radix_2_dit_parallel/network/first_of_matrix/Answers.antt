use Rattle.p3_dft.proofs.Lemmas.{◌≡◌, ◌+◌, ◌*◌, ◌-◌, ◌^◌, ◌<◌, length, sym, ap, ◌∙◌, arith, refl, pow-add, rev, rev-block, rev-lt, rev-rev, point, values_of}
use Rattle.p3_dft.proofs.Lemmas.{reversed_cell, written_cell, row_below, poly_same, entries_then, entries_written}
use Rattle.p3_dft.proofs.radix_2_dit_parallel.network.first_of_matrix.Goals as goal

pub returns-clause-values : goal.returns-clause-values
returns-clause-values g c root s roots table a t j p q l =
    let field = g.F.Valued in
    let mid = c.args.mid in
    let left = c.args.left in
    let m = c.args.mat.now in
    let r = c.reverse_rows.new.mat in
    let w = c.width-width.result in
    let runs : mid + left - mid ≡ left = omega arith in
    let inside : j < w = omega (arith, l, c.width-width.ensures.width) in
    let all : 2 ^ (mid + left) ≡ 2 ^ left * 2 ^ mid = pow-add 2 mid left ∙ omega arith in
    written_cell field r c.first_half.new.values _ w (a * 2 ^ mid + t) j
    (c.first_half.auto.values ∙ ap length c.values_mut.ensures.values)
    (c.reverse_rows.ensures.shape.1 ∙ sym c.width-width.ensures.width)
    ∙ c.first_half.ensures.values root s roots table a t j (rw runs p) q inside
    ∙ poly_same field.ring (2 ^ mid) _ _ (point field.ring root mid s t)
    (λ u b.
    reversed_cell field m r c.values_mut.result.now (mid + left) w (a * 2 ^ mid + rev mid u) j c.requires.rows.height
    c.width-width.ensures.width c.reverse_rows.ensures.shape
    (c.reverse_rows.ensures.rows (mid + left) c.requires.rows.height) c.values_mut.ensures.values
    (omega (arith, all, row_below a (rev mid u) (2 ^ mid) (2 ^ left) p (rev-lt mid u))) inside
    ∙ ap (λ n. (values_of field m).entry n j) (rev-block mid left a (rev mid u) (rev-lt mid u) ∙ ap (λ n. n * 2 ^ left + rev left a) (rev-rev mid u b)))

pub returns-clause-same : goal.returns-clause-same
returns-clause-same g c =
    entries_then c.args.mat.now c.reverse_rows.new.mat _ c.reverse_rows.ensures.shape c.reverse_rows.ensures.size
    (entries_written c.reverse_rows.new.mat _ c.first_half.new.values refl refl
    (c.first_half.auto.values ∙ ap length c.values_mut.ensures.values))
