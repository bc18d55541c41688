use Rattle.p3_networks.proofs.Lemmas.{◌≡◌, ◌-◌, ℕ, ◌+◌, ◌*◌, ◌^◌, ◌≤◌, length, get_or, refl, ap, ◌∙◌, subst, arith, HoldsCells, row_below, counted_twice}
use Rattle.p3_networks.proofs.Lemmas.{layers_joined}
use Rattle.p3_networks.proofs.Networks.Cells.{high_cells, high_cells_end, high_cells_start, high_layers}
use Rattle.p3_networks.proofs.tiles.dit_network_to_reversed.Goals as goal

pub layers_in_groups-requires-clause-in_table : goal.layers_in_groups-requires-clause-in_table
layers_in_groups-requires-clause-in_table g c b inside = (omega (arith, inside, c.requires.enough), λ _. c.requires.first)

pub layers_of_tiles-requires-clause-first : goal.layers_of_tiles-requires-clause-first
layers_of_tiles-requires-clause-first g c = λ _. c.requires.first

pub returns-clause-values : goal.returns-clause-values
returns-clause-values g c bits root roots within twiddles r j below inside =
    let field = g.F.Valued in
    let k = c.args.log_h in
    let w = c.args.width in
    let len = length c.args.values.now in
    let column = λ (u q : ℕ). field.value (get_or c.args.values.now (q * w + u) field.zero) in
    let entry = λ (b : ℕ). field.value (get_or c.args.twiddles.now b field.zero) in
    let cells = high_cells field.ring roots k w column entry in
    let layers = high_layers field.ring roots k w column entry c.requires.width within (λ l b p q. twiddles.entries l b p q) in
    let start : HoldsCells field.value field.zero 0 (cells k) c.args.values.now = λ i p.
    high_cells_start field.ring roots k w column entry c.requires.width
    (λ n. field.value (get_or c.args.values.now n field.zero)) (λ n v. refl) i (omega (arith, p, c.requires.size))
    in
    let none : k ≡ k - 0 = omega arith in
    let left : k - (k - c.args.log_rows) ≡ c.args.log_rows = omega (arith, c.requires.below) in
    let middle : HoldsCells field.value field.zero 0 (cells c.args.log_rows) c.layers_in_groups.new.values =
    subst (λ (e : ℕ). HoldsCells field.value field.zero 0 (cells e) c.layers_in_groups.new.values) left
    (c.layers_in_groups.ensures.cells cells layers (subst (λ (e : ℕ). HoldsCells field.value field.zero 0 (cells e) c.args.values.now) none start)) in
    let none_1 : c.args.log_rows ≡ c.args.log_rows - 0 = omega arith in
    let none_2 : c.args.log_rows - (c.args.log_rows - 0) ≡ 0 = omega arith in
    let done = subst (λ (e : ℕ). HoldsCells field.value field.zero 0 (cells e) c.layers_of_tiles.new.values) none_2
    (c.layers_of_tiles.ensures.cells cells layers
    (subst (λ (e : ℕ). HoldsCells field.value field.zero 0 (cells e) c.layers_in_groups.new.values) none_1 middle))
    in
    done (r * w + j) (omega (arith, row_below r j w (2 ^ k) below inside, c.requires.size, c.layers_in_groups.auto.values, c.layers_of_tiles.auto.values))
    ∙ high_cells_end field.ring roots k w column entry r j inside

pub returns-clause-cost : goal.returns-clause-cost
returns-clause-cost g c =
    let len = length c.args.values.now in
    let first : 2 * c.layers_in_groups.new.products ≤ 2 * c.args.products.now + (c.args.log_h - c.args.log_rows) * len =
    omega (arith, c.layers_in_groups.ensures.cost.cost) in
    let second : 2 * c.layers_of_tiles.new.products ≤ 2 * c.layers_in_groups.new.products + c.args.log_rows * len =
    let each = ap (λ n. c.args.log_rows * n) c.layers_in_groups.auto.values in
    omega (arith, c.layers_of_tiles.ensures.cost.cost, each) in
    counted_twice c.args.log_h c.args.width len c.args.products.now c.layers_of_tiles.new.products c.requires.size
    (layers_joined c.args.log_rows c.args.log_h len c.args.products.now c.layers_in_groups.new.products
    c.layers_of_tiles.new.products c.requires.below first second)
