use Rattle.p3_networks.proofs.Lemmas.{◌≡◌, ℕ, ◌+◌, ◌-◌, ◌*◌, ◌^◌, ◌≤◌, length, get_or, sym, ap, ◌∙◌, subst, arith, lit≤, pow-le-pow_right, power, rev, rev-lt}
use Rattle.p3_networks.proofs.Lemmas.{rev-rev, HoldsCells, row_below, twisted_cells, twisted_cells_end, twisted_cells_of_zeros, twisted_layers}
use Rattle.p3_networks.proofs.Lemmas.{enough_from_start, first_is_one, spread_root}
use Rattle.p3_matrix.proofs.Polynomials.ByIndex.{first_behind, first_inside, first_of, poly_of_first}
use Rattle.p3_networks.proofs.tiles.extending_network.Goals as goal

pub spread_tiles-requires-clause-first : goal.spread_tiles-requires-clause-first
spread_tiles-requires-clause-first g c =
    first_is_one g.F.Valued (λ (n : ℕ). g.F.Valued.value (g.F.TwoAdicField.generator n)) c.args.log_h
    c.args.twiddles.now c.requires.nonzero c.requires.twiddles

pub spread_tiles-requires-clause-enough : goal.spread_tiles-requires-clause-enough
spread_tiles-requires-clause-enough g c =
    enough_from_start g.F.Valued (λ (n : ℕ). g.F.Valued.value (g.F.TwoAdicField.generator n)) c.args.log_h
    c.args.twiddles.now c.requires.nonzero c.requires.twiddles

pub layers_in_groups-requires-clause-in_table : goal.layers_in_groups-requires-clause-in_table
layers_in_groups-requires-clause-in_table g c b inside =
    let enough =
    enough_from_start g.F.Valued (λ (n : ℕ). g.F.Valued.value (g.F.TwoAdicField.generator n)) c.args.log_h
    c.args.twiddles.now c.requires.nonzero c.requires.twiddles in (
      omega (arith, inside, enough),
      first_is_one g.F.Valued (λ (n : ℕ). g.F.Valued.value (g.F.TwoAdicField.generator n)) c.args.log_h
          c.args.twiddles.now c.requires.nonzero c.requires.twiddles,
    )

-- The rows, spread, are the cells that the first layers make of a column with zeros behind it; the other layers lead from there to its values.
pub returns-clause-values : goal.returns-clause-values
returns-clause-values g c r j below inside =
    let field = g.F.Valued in
    let k = c.args.log_h in
    let a = c.args.coefficients.added_bits in
    let m = k - a in
    let w = c.args.width in
    let gen = λ (n : ℕ). field.value (g.F.TwoAdicField.generator n) in
    let roots = g.met.F.TwoAdicField.roots_law in
    let fewer : 2 ^ m ≤ 2 ^ k = let less : m ≤ k = omega arith in pow-le-pow_right {n = 2} (lit≤ tt) less in
    let added : a ≤ k = omega (arith, c.requires.added, c.requires.below) in
    let row =
    λ (u q : ℕ). field.ring.mul (field.value (get_or c.args.coefficients.rows.now (rev m q * w + u) field.zero))
    (field.value (get_or c.args.coefficients.weights.now (rev m q) field.zero)) in
    let column = λ (u q : ℕ). first_of field.ring (2 ^ m) (row u) q in
    let entry = λ (b : ℕ). field.value (get_or c.args.twiddles.now b field.zero) in
    let cells = twisted_cells field.ring roots k w column entry in
    let layers = twisted_layers field.ring roots k w column entry c.requires.width c.requires.within (λ l b p q. c.requires.twiddles.entries l b p q) in
    let middle : HoldsCells field.value field.zero 0 (cells c.args.log_rows) c.spread_tiles.new.values = c.spread_tiles.ensures.cells cells layers
    (λ q t u among copy column_is.
    let root = power field.ring (power field.ring (gen k) (rev m q)) t in
    twisted_cells_of_zeros field.ring roots k w column entry a added (λ v n after. first_behind field.ring (2 ^ m) (row v) n after) q t u copy column_is
    ∙ ap (λ x. field.ring.mul x root) (first_inside field.ring (2 ^ m) (row u) (rev m q) (rev-lt m q)
    ∙ ap (λ n. field.ring.mul (field.value (get_or c.args.coefficients.rows.now (n * w + u) field.zero))
    (field.value (get_or c.args.coefficients.weights.now n field.zero))) (rev-rev m q among))
    ∙ field.ring.mul_assoc (field.value (get_or c.args.coefficients.rows.now (q * w + u) field.zero))
    (field.value (get_or c.args.coefficients.weights.now q field.zero)) root
    ∙ ap (λ x. field.ring.mul (field.value (get_or c.args.coefficients.rows.now (q * w + u) field.zero))
    (field.ring.mul (field.value (get_or c.args.coefficients.weights.now q field.zero)) x))
    (sym (spread_root field gen k a c.args.twiddles.now added c.requires.nonzero c.requires.twiddles q t among copy))) in
    let none : c.args.log_rows ≡ c.args.log_rows + 0 = omega arith in
    let all : c.args.log_rows + (k - c.args.log_rows) ≡ k = omega (arith, c.requires.below) in
    let done = subst (λ (e : ℕ). HoldsCells field.value field.zero 0 (cells e) c.layers_in_groups.new.values) all
    (c.layers_in_groups.ensures.cells cells layers (subst (λ (e : ℕ). HoldsCells field.value field.zero 0 (cells e) c.spread_tiles.new.values) none middle)) in
    done (r * w + j) (omega (arith, row_below r j w (2 ^ k) below inside, c.requires.size, c.layers_in_groups.auto.values, c.spread_tiles.auto.values))
    ∙ twisted_cells_end field.ring roots k w column entry r j below inside
    ∙ poly_of_first field.ring (2 ^ m) (2 ^ k) (row j) (power field.ring (gen k) r) fewer

pub returns-clause-cost : goal.returns-clause-cost
returns-clause-cost g c =
    let len = length c.args.values.now in
    let r = c.args.log_rows in
    let k = c.args.log_h in
    let a = c.args.coefficients.added_bits in
    let each : (k - r) * length c.spread_tiles.new.values ≡ (k - r) * len = ap (λ n. (k - r) * n) c.spread_tiles.auto.values in
    let second : 2 * c.layers_in_groups.new.products ≤ 2 * c.spread_tiles.new.products + (k - r) * len =
    omega (arith, c.layers_in_groups.ensures.cost.cost, each) in
    let all : (r - a + 2) * len + (k - r) * len ≡ (k - a + 2) * len =
    let e : r - a + 2 + (k - r) ≡ k - a + 2 = omega (arith, c.requires.added, c.requires.below) in
    let d : (r - a + 2) * len + (k - r) * len ≡ (r - a + 2 + (k - r)) * len = omega arith in
    d ∙ ap (λ n. n * len) e in
    omega (arith, c.spread_tiles.ensures.cost.cost, second, all)
