use Rattle.p3_networks.proofs.Lemmas.{◌≡◌, ◌-◌, ℕ, ◌+◌, ◌*◌, ◌^◌, ◌≤◌, length, get_or, ap, ◌∙◌, subst, arith, rev, rev-rev, HoldsCells, row_below}
use Rattle.p3_networks.proofs.Lemmas.{counted_twice, layers_joined, twisted_cells, twisted_cells_end, twisted_cells_start, twisted_layers}
use Rattle.p3_networks.proofs.tiles.dif_network.Goals as goal

pub layers_in_groups-requires-clause-in_table : goal.layers_in_groups-requires-clause-in_table
layers_in_groups-requires-clause-in_table g c b inside = (omega (arith, inside, c.requires.enough), c.requires.first)

pub returns-clause-values : goal.returns-clause-values
returns-clause-values g c bits root roots within twiddles r j below inside =
    let field = g.F.Valued in
    let k = c.args.log_h in
    let w = c.args.width in
    let column = λ (u q : ℕ). field.value (get_or c.args.values.now (rev k q * w + u) field.zero) in
    let entry = λ (b : ℕ). field.value (get_or c.args.twiddles.now b field.zero) in
    let cells = twisted_cells field.ring roots k w column entry in
    let layers = twisted_layers field.ring roots k w column entry c.requires.width within (λ l b p q. twiddles.entries l b p q) in
    let start : HoldsCells field.value field.zero 0 (cells 0) c.args.values.now = λ i p.
    twisted_cells_start field.ring roots k w column entry c.requires.width (λ n. field.value (get_or c.args.values.now n field.zero))
    (λ q u small. ap (λ n. field.value (get_or c.args.values.now (n * w + u) field.zero)) (rev-rev k q small)) i (omega (arith, p, c.requires.size)) in
    let tiled : HoldsCells field.value field.zero 0 (cells (0 + (c.args.log_rows - 0))) c.layers_of_tiles.new.values =
    c.layers_of_tiles.ensures.cells cells layers start in
    let same : 0 + (c.args.log_rows - 0) ≡ c.args.log_rows + 0 = omega arith in
    let all : c.args.log_rows + (k - c.args.log_rows) ≡ k = omega (arith, c.requires.below) in
    let done = subst (λ (e : ℕ). HoldsCells field.value field.zero 0 (cells e) c.layers_in_groups.new.values) all
    (c.layers_in_groups.ensures.cells cells layers
    (subst (λ (e : ℕ). HoldsCells field.value field.zero 0 (cells e) c.layers_of_tiles.new.values) same tiled)) in
    done (r * w + j) (omega (arith, row_below r j w (2 ^ k) below inside, c.requires.size, c.layers_in_groups.auto.values, c.layers_of_tiles.auto.values))
    ∙ twisted_cells_end field.ring roots k w column entry r j below inside

pub returns-clause-cost : goal.returns-clause-cost
returns-clause-cost g c =
    let len = length c.args.values.now in
    let k = c.args.log_h in
    let r = c.args.log_rows in
    let back : k - (k - r) ≡ r = omega (arith, c.requires.below) in
    let first : 2 * c.layers_of_tiles.new.products ≤ 2 * c.args.products.now + (k - (k - r)) * len =
    omega (arith, c.layers_of_tiles.ensures.cost.cost, ap (λ n. n * len) back) in
    let second : 2 * c.layers_in_groups.new.products ≤ 2 * c.layers_of_tiles.new.products + (k - r) * len =
    let each = ap (λ n. (k - r) * n) c.layers_of_tiles.auto.values in
    omega (arith, c.layers_in_groups.ensures.cost.cost, each) in
    counted_twice k c.args.width len c.args.products.now c.layers_in_groups.new.products c.requires.size
    (layers_joined (k - r) k len c.args.products.now c.layers_of_tiles.new.products c.layers_in_groups.new.products (omega arith) first second)
