use Rattle.p3_dft.proofs.Lemmas.{◌≡◌, ℕ, ◌+◌, ◌-◌, ◌^◌, ◌<◌, sym, ap, ◌∙◌, subst, arith, AreRoots, rev, bit_reversal, mid_of, height, rev-lt, rev-rev, point}
use Rattle.p3_dft.proofs.Lemmas.{values_of, poly, IsCosetTable, halves_counted, halves_whole, poly_same, is_values, layer_there, fewer_roots, HasTwoPowerRows}
use Rattle.p3_networks.proofs.Tables.CosetTables.{high_of_coset, low_of_coset}
use Rattle.p3_dft.proofs.radix_2_dit_parallel.transform.evaluate_on_coset_to_reversed.Goals as goal

pub network_to_reversed-requires-clause-rows : goal.network_to_reversed-requires-clause-rows
network_to_reversed-requires-clause-rows g c = subst (HasTwoPowerRows c.args.mat.now) (sym (halves_whole c.args.log_h)) c.requires.rows

pub network_to_reversed-requires-clause-low : goal.network_to_reversed-requires-clause-low
network_to_reversed-requires-clause-low g c l below =
    layer_there c.args.table.now.log_h _ (omega (arith, c.requires.table, c.requires.rows.fits_u64))
    c.twiddles.ensures.table.size l (omega (arith, c.requires.table, below))

pub network_to_reversed-requires-clause-high : goal.network_to_reversed-requires-clause-high
network_to_reversed-requires-clause-high g c l from below =
    layer_there c.args.table.now.log_h _ (omega (arith, c.requires.table, c.requires.rows.fits_u64))
    c.twiddles.ensures.table.size l (omega (arith, c.requires.table, below))

-- The table serves the low half of the layers and the high one, which together are those of the height; what the network
-- writes into row `rev i` is the value at point i, where each coefficient is multiplied by one.
pub returns-clause-values : goal.returns-clause-values
returns-clause-values g c =
    let field = g.F.Valued in
    let gen = λ (n : ℕ). field.value (g.F.TwoAdicField.generator n) in
    let k = c.args.log_h in
    let mid = mid_of k in
    let left = k - mid in
    let s = field.value c.args.table.now.shift in
    let m = c.args.mat.now in
    let out = c.network_to_reversed.new.mat in
    let xs = c.twiddles.result.now in
    let k_is : mid + left ≡ k = halves_whole k in
    let table : IsCosetTable field g.F.TwoAdicField.generator s k xs =
    subst (λ (n : ℕ). IsCosetTable field g.F.TwoAdicField.generator s n xs) c.requires.table
    c.twiddles.ensures.table in
    let roots : AreRoots field.ring (mid + left) gen =
    fewer_roots field.ring (mid + left) _ (omega (arith, c.requires.table, c.twiddles.ensures.within))
    g.met.F.TwoAdicField.roots_law in
    let low = low_of_coset field g.F.TwoAdicField.generator s k xs mid left (omega arith) k_is table in
    let high = high_of_coset field g.F.TwoAdicField.generator s k xs mid (mid + left) (omega arith) (sym k_is) table in
    let tall : height out ≡ height m = c.network_to_reversed.ensures.same.shape.0 in
    is_values field.ring gen (values_of field m) k s (bit_reversal k (values_of field out))
    (tall ∙ c.requires.rows.height) c.network_to_reversed.ensures.same.shape.1
    (λ i j below inside.
    let f = λ (q : ℕ). (values_of field m).entry q j in
    let scaled = λ (q : ℕ). field.ring.mul (f q) field.ring.one in
    let x = point field.ring gen k s i in
    c.network_to_reversed.ensures.values gen s roots low high (rev k i) j (subst (λ (n : ℕ). rev k i < 2 ^ n) (sym k_is) (rev-lt k i)) inside
    ∙ ap (λ n. poly field.ring (2 ^ n) scaled (point field.ring gen n s (rev n (rev k i)))) k_is
    ∙ ap (λ r. poly field.ring (2 ^ k) scaled (point field.ring gen k s r)) (rev-rev k i below)
    ∙ poly_same field.ring (2 ^ k) scaled f x (λ q p. field.ring.mul_one (f q))
    ∙ ap (λ n. poly field.ring n f x) (sym c.requires.rows.height))

pub returns-clause-cost : goal.returns-clause-cost
returns-clause-cost g c =
    let k = c.args.log_h in
    let mid = mid_of k in
    let e = halves_counted mid (k - mid) k c.args.mat.now.width 0 (halves_whole k) in
    omega (arith, e, c.network_to_reversed.ensures.cost)
