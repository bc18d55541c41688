use Rattle.p3_networks.proofs.Lemmas.{◌≡◌, ℕ, ◌+◌, ◌-◌, ◌*◌, ◌^◌, ◌≤◌, length, get_or, sym, ap, ◌∙◌, subst, arith, pow_pos, power, power-zero, inverse_root}
use Rattle.p3_networks.proofs.Lemmas.{inverse_roots, rev, rev_of_zero, rev-rev, poly_same, poly-times, HoldsCells, backward_root, row_below, counted_twice}
use Rattle.p3_networks.proofs.Lemmas.{layers_joined, two_halves, scaled_layers, twisted_cells, twisted_cells_end, twisted_cells_start, twisted_layers}
use Rattle.p3_networks.proofs.tiles.scaled_dif_network.Goals as goal

pub scaled_dif_tiles-requires-clause-first : goal.scaled_dif_tiles-requires-clause-first
scaled_dif_tiles-requires-clause-first g c =
    let field = g.F.Valued in
    let root = inverse_root field.ring (λ (n : ℕ). field.value (g.F.TwoAdicField.generator n)) 1 in
    c.requires.twiddles.entries 0 0 (omega (arith, c.requires.nonzero)) (pow_pos 0) ∙ ap (power field.ring root) (rev_of_zero 0) ∙ power-zero field.ring root

pub scaled_dif_tiles-requires-clause-enough : goal.scaled_dif_tiles-requires-clause-enough
scaled_dif_tiles-requires-clause-enough g c =
    let k = c.args.log_h in
    let size = c.requires.twiddles.size (k - 1) (omega (arith, c.requires.nonzero)) in
    let d = two_halves k (λ e. absurd (omega (arith, e, c.requires.nonzero))) in
    omega (arith, size, d)

pub layers_in_groups-requires-clause-in_table : goal.layers_in_groups-requires-clause-in_table
layers_in_groups-requires-clause-in_table g c b inside =
    let field = g.F.Valued in
    let k = c.args.log_h in
    let root = inverse_root field.ring (λ (n : ℕ). field.value (g.F.TwoAdicField.generator n)) 1 in
    let size = c.requires.twiddles.size (k - 1) (omega (arith, c.requires.nonzero)) in
    let d = two_halves k (λ e. absurd (omega (arith, e, c.requires.nonzero))) in (
      omega (arith, inside, size, d),
      c.requires.twiddles.entries 0 0 (omega (arith, c.requires.nonzero)) (pow_pos 0)
          ∙ ap (power field.ring root) (rev_of_zero 0) ∙ power-zero field.ring root,
    )

pub returns-clause-values : goal.returns-clause-values
returns-clause-values g c r j below inside =
    let field = g.F.Valued in
    let k = c.args.log_h in
    let w = c.args.width in
    let len = length c.args.values.now in
    let roots = inverse_roots field.ring g.met.F.TwoAdicField.roots_law in
    let scale = field.value c.args.scale in
    let column = λ (u q : ℕ). field.value (get_or c.args.values.now (rev k q * w + u) field.zero) in
    let entry = λ (b : ℕ). field.value (get_or c.args.twiddles.now b field.zero) in
    let cells = twisted_cells field.ring roots k w column entry in
    let scaled = λ (e i : ℕ). field.ring.mul (cells e i) scale in
    let layers = twisted_layers field.ring roots k w column entry c.requires.width c.requires.within (λ l b p q. c.requires.twiddles.entries l b p q) in
    let start : HoldsCells field.value field.zero 0 (cells 0) c.args.values.now = λ i p.
    twisted_cells_start field.ring roots k w column entry c.requires.width (λ n. field.value (get_or c.args.values.now n field.zero))
    (λ q u small. ap (λ n. field.value (get_or c.args.values.now (n * w + u) field.zero)) (rev-rev k q small)) i (omega (arith, p, c.requires.size)) in
    let middle : HoldsCells field.value field.zero 0 (scaled c.args.log_rows) c.scaled_dif_tiles.new.values =
    c.scaled_dif_tiles.ensures.cells cells layers start in
    let none : c.args.log_rows ≡ c.args.log_rows + 0 = omega arith in
    let all : c.args.log_rows + (k - c.args.log_rows) ≡ k = omega (arith, c.requires.below) in
    let done = subst (λ (e : ℕ). HoldsCells field.value field.zero 0 (scaled e) c.layers_in_groups.new.values) all
    (c.layers_in_groups.ensures.cells scaled (scaled_layers field.ring entry scale k w cells layers)
    (subst (λ (e : ℕ). HoldsCells field.value field.zero 0 (scaled e) c.scaled_dif_tiles.new.values) none middle))
    in
    let root = power field.ring (backward_root field g.F.TwoAdicField.generator k) r in
    done (r * w + j) (omega (arith, row_below r j w (2 ^ k) below inside, c.requires.size, c.layers_in_groups.auto.values, c.scaled_dif_tiles.auto.values))
    ∙ ap (λ y. field.ring.mul y scale) (twisted_cells_end field.ring roots k w column entry r j below inside)
    ∙ field.ring.mul_comm _ _ ∙ sym (poly-times field.ring (2 ^ k) scale (column j) root) ∙ poly_same field.ring (2 ^ k)
    _ _ root (λ q small. field.ring.mul_comm scale (column j q))

pub returns-clause-cost : goal.returns-clause-cost
returns-clause-cost g c =
    let len = length c.args.values.now in
    let r = c.args.log_rows in
    let first : 2 * c.scaled_dif_tiles.new.products ≤ 2 * (c.args.products.now + len) + (c.args.log_h - (c.args.log_h - r)) * len =
    let back : c.args.log_h - (c.args.log_h - r) ≡ r = omega (arith, c.requires.below) in
    let spread : (r + 2) * len ≡ r * len + 2 * len = omega arith in
    omega (arith, c.scaled_dif_tiles.ensures.cost.cost, spread, ap (λ n. n * len) back) in
    let each : (c.args.log_h - r) * length c.scaled_dif_tiles.new.values ≡ (c.args.log_h - r) * len =
    ap (λ n. (c.args.log_h - r) * n) c.scaled_dif_tiles.auto.values in
    let second : 2 * c.layers_in_groups.new.products ≤ 2 * c.scaled_dif_tiles.new.products + (c.args.log_h - r) * len =
    omega (arith, c.layers_in_groups.ensures.cost.cost, each) in
    let all = counted_twice c.args.log_h c.args.width len (c.args.products.now + len) c.layers_in_groups.new.products c.requires.size
    (layers_joined (c.args.log_h - r) c.args.log_h len (c.args.products.now + len) c.scaled_dif_tiles.new.products
    c.layers_in_groups.new.products (omega arith) first second) in
    omega (arith, all, c.requires.size)
