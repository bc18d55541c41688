use Rattle.p3_dft.proofs.Lemmas.{◌≡◌, ℕ, ◌+◌, ◌*◌, ◌/◌, ◌%◌, ◌^◌, ◌<◌, sym, ap, ◌∙◌, arith, pow-add, pow_pos, div-add-mod', div_below, mod_below, Ring}
use Rattle.p3_dft.proofs.Lemmas.{AreRoots, power, rev, rev-lt, point, values_of, poly, factor, halves_joined, poly_same, entries_then, rows_still}
use Rattle.p3_dft.proofs.radix_2_dit_parallel.network.network_to_reversed.Goals as goal

-- fewer roots are roots
fewer_roots : {A : Type 0} (R : Ring A) (mid left : ℕ) {root : ℕ → A} → AreRoots R (mid + left) root → AreRoots R mid root
fewer_roots R mid left roots = record { first = roots.first; second = roots.second; square = λ i p. roots.square i (omega arith) }

pub returns-clause-values : goal.returns-clause-values
returns-clause-values g c root s roots low high r j p q =
    let field = g.F.Valued in
    let mid = c.args.mid in
    let left = c.args.left in
    let m = c.args.mat.now in
    let half = c.first_of_matrix.new.mat in
    let scale = factor field c.args.scale in
    let a = r / 2 ^ left in
    let t = r % 2 ^ left in
    let split : a * 2 ^ left + t ≡ r = div-add-mod' r (2 ^ left) in
    let all : 2 ^ (mid + left) ≡ 2 ^ mid * 2 ^ left = pow-add 2 mid left in
    let below : a < 2 ^ mid = div_below r (2 ^ left) (2 ^ mid) (pow_pos left) (omega (arith, p, all)) in
    let inside : t < 2 ^ left = mod_below r (2 ^ left) (pow_pos left) in
    let x = point field.ring root left (point field.ring root (mid + left) s (rev mid a)) (rev left t) in
    let wide : half.width ≡ m.width = c.first_of_matrix.ensures.same.shape.1 in
    ap (λ n. (values_of field c.second_of_matrix.new.mat).entry n j) (sym split)
    ∙ c.second_of_matrix.ensures.values root s roots high a t j below inside (omega (arith, q, wide))
    ∙ poly_same field.ring (2 ^ left) _ _ x
    (λ u l. ap (λ y. field.ring.mul y scale) (c.first_of_matrix.ensures.values root (power field.ring s (2 ^ left))
    (fewer_roots field.ring mid left roots) low (rev left u) (rev mid a) j (rev-lt left u) (rev-lt mid a) q))
    ∙ halves_joined field.ring roots s mid left a t (λ u. (values_of field m).entry u j) scale (omega arith) inside
    ∙ ap (λ n. poly field.ring (2 ^ (mid + left)) (λ u. field.ring.mul ((values_of field m).entry u j) scale)
    (point field.ring root (mid + left) s (rev (mid + left) n))) split

pub second_of_matrix-requires-clause-table : goal.second_of_matrix-requires-clause-table
second_of_matrix-requires-clause-table g c = c.requires.high

pub second_of_matrix-requires-clause-rows : goal.second_of_matrix-requires-clause-rows
second_of_matrix-requires-clause-rows g c = rows_still c.args.mat.now c.first_of_matrix.new.mat _ c.requires.rows c.first_of_matrix.ensures.same

pub returns-clause-same : goal.returns-clause-same
returns-clause-same g c =
    entries_then c.args.mat.now c.first_of_matrix.new.mat c.second_of_matrix.new.mat
    c.first_of_matrix.ensures.same.shape c.first_of_matrix.ensures.same.size c.second_of_matrix.ensures.same
