use Rattle.p3_dft.proofs.Lemmas.{◌≡◌, ℕ, ◌+◌, ◌*◌, ◌^◌, ◌<◌, length, sym, ap, ◌∙◌, arith, refl, ◌≤◌, subst, ◌/◌, pow-add, rev, point, values_of, factor}
use Rattle.p3_dft.proofs.Lemmas.{scale_cost, reversed_cell, written_cell, row_below, row_digits, poly_same, entries_then, entries_written}
use Rattle.p3_dft.proofs.radix_2_dit_parallel.network.second_of_matrix.Goals as goal

pub returns-clause-values : goal.returns-clause-values
returns-clause-values g c root s roots table a t j p q l =
    let field = g.F.Valued in
    let mid = c.args.mid in
    let left = c.args.left in
    let m = c.args.mat.now in
    let r = c.reverse_rows.new.mat in
    let w = c.width-width.result in
    let inside : j < w = omega (arith, l, c.width-width.ensures.width) in
    let all : 2 ^ (mid + left) ≡ 2 ^ mid * 2 ^ left = pow-add 2 mid left in
    written_cell field r c.second_half.new.values _ w (a * 2 ^ left + t) j
    (c.second_half.auto.values ∙ ap length c.values_mut.ensures.values)
    (c.reverse_rows.ensures.shape.1 ∙ sym c.width-width.ensures.width)
    ∙ c.second_half.ensures.values root s roots table a t j p q inside
    ∙ poly_same field.ring (2 ^ left) _ _ (point field.ring root left (point field.ring root (mid + left) s (rev mid a)) (rev left t))
    (λ u b. ap (λ x. field.ring.mul x (factor field c.args.scale)) (
    reversed_cell field m r c.values_mut.result.now (mid + left) w (a * 2 ^ left + u) j c.requires.rows.height
    c.width-width.ensures.width c.reverse_rows.ensures.shape
    (c.reverse_rows.ensures.rows (mid + left) c.requires.rows.height) c.values_mut.ensures.values
    (omega (arith, all, row_below a u (2 ^ left) (2 ^ mid) p b)) inside
    ∙ ap (λ n. (values_of field m).entry n j) (row_digits mid left a u b)))

pub returns-clause-same : goal.returns-clause-same
returns-clause-same g c =
    entries_then c.args.mat.now c.reverse_rows.new.mat _ c.reverse_rows.ensures.shape c.reverse_rows.ensures.size
    (entries_written c.reverse_rows.new.mat _ c.second_half.new.values refl refl
    (c.second_half.auto.values ∙ ap length c.values_mut.ensures.values))

pub returns-clause-cost : goal.returns-clause-cost
returns-clause-cost g c =
    let left = c.args.left in
    subst (λ (w : ℕ). c.second_half.new.products
    ≤ c.args.products.now
    + 2 ^ c.args.mid * (w * (left * 2 ^ left / 2) + scale_cost c.args.scale * (2 ^ left * w)))
    c.width-width.ensures.width c.second_half.ensures.cost.cost
