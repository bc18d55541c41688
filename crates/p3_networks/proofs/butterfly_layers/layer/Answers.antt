use Rattle.p3_networks.proofs.Lemmas.{◌≡◌, ℕ, ◌+◌, ◌*◌, ◌/◌, ◌<◌, ◌≤◌, List, length, get_or, sym, subst, IsLayer}
use Rattle.p3_networks.proofs.butterfly_layers.layer.Goals as goal

-- what holds of a known width and a known half
at_sizes : (P : ℕ → ℕ → Type 0) (width half w h : ℕ) → width ≡ w → half ≡ h → P w h → P width half
at_sizes P width half w h width_is half_is known = subst (λ n. P n half) (sym width_is) (subst (λ n. P w n) (sym half_is) known)

-- and the other way round
known_sizes : (P : ℕ → ℕ → Type 0) (width half w h : ℕ) → width ≡ w → half ≡ h → P width half → P w h
known_sizes P width half w h width_is half_is given = subst (λ n. P n h) width_is (subst (λ n. P width n) half_is given)

-- a layer of blocks of known sizes
layer_at : {A T : Type 0} (value : T → A) (d : T) (near far : ℕ → ℕ → A → A → A) (old new : List T) (first blocks width half w h : ℕ) → width ≡ w → half ≡ h
    → IsLayer blocks (h * w) (λ b i. near (first + b) (i / w)) (λ b i. far (first + b) (i / w)) (λ n. value (get_or old n d)) (λ n. value (get_or new n d))
    → IsLayer blocks (half * width) (λ b i. near (first + b) (i / width)) (λ b i. far (first + b) (i / width))
    (λ n. value (get_or old n d)) (λ n. value (get_or new n d))
layer_at value d near far old new first blocks =
    at_sizes (λ w h. IsLayer blocks (h * w) (λ b i. near (first + b) (i / w)) (λ b i. far (first + b) (i / w))
    (λ n. value (get_or old n d)) (λ n. value (get_or new n d)))

pub meet_blocks-requires-clause-size : goal.meet_blocks-requires-clause-size
meet_blocks-requires-clause-size g c =
    known_sizes (λ w h. length c.args.values.now ≡ c.args.blocks * (2 * (h * w))) c.args.width c.args.half 1 1
    c.if-width-eq1.true c.if-half-eq1.true c.requires.size

pub meet_blocks-requires-clause-in_table : goal.meet_blocks-requires-clause-in_table
meet_blocks-requires-clause-in_table g c =
    subst (λ h. (b t : ℕ) → b < c.args.blocks → t < h → g.R.Rule.has c.args.rule (c.args.first_block + b) t)
    c.if-half-eq1.true c.requires.in_table

pub returns-then-half-eq1-clause-cells : goal.returns-then-half-eq1-clause-cells
returns-then-half-eq1-clause-cells g c =
    let field = g.F.Valued in
    layer_at field.value field.zero (g.R.Rule.near field.Element field.ring field.value c.args.rule)
    (g.R.Rule.far field.Element field.ring field.value c.args.rule)
    c.args.values.now c.meet_blocks.new.values c.args.first_block c.args.blocks c.args.width c.args.half 1 1
    c.if-width-eq1.true c.if-half-eq1.true c.meet_blocks.ensures.cells

pub returns-then-half-eq1-clause-cost : goal.returns-then-half-eq1-clause-cost
returns-then-half-eq1-clause-cost g c =
    at_sizes (λ w h. c.meet_blocks.new.products ≤ c.args.products.now + g.R.Rule.cost * (c.args.blocks * (h * w)))
    c.args.width c.args.half 1 1 c.if-width-eq1.true c.if-half-eq1.true c.meet_blocks.ensures.cost

pub meet_blocks-requires-then-half-eq2-clause-size : goal.meet_blocks-requires-then-half-eq2-clause-size
meet_blocks-requires-then-half-eq2-clause-size g c =
    known_sizes (λ w h. length c.args.values.now ≡ c.args.blocks * (2 * (h * w))) c.args.width c.args.half 1 2
    c.if-width-eq1-2.true c.if-half-eq2.true c.requires.size

pub meet_blocks-requires-then-half-eq2-clause-in_table : goal.meet_blocks-requires-then-half-eq2-clause-in_table
meet_blocks-requires-then-half-eq2-clause-in_table g c =
    subst (λ h. (b t : ℕ) → b < c.args.blocks → t < h → g.R.Rule.has c.args.rule (c.args.first_block + b) t)
    c.if-half-eq2.true c.requires.in_table

pub returns-then-half-eq2-clause-cells : goal.returns-then-half-eq2-clause-cells
returns-then-half-eq2-clause-cells g c =
    let field = g.F.Valued in
    layer_at field.value field.zero (g.R.Rule.near field.Element field.ring field.value c.args.rule)
    (g.R.Rule.far field.Element field.ring field.value c.args.rule)
    c.args.values.now c.meet_blocks-then-half-eq2.new.values c.args.first_block c.args.blocks c.args.width c.args.half 1
    2 c.if-width-eq1-2.true c.if-half-eq2.true c.meet_blocks-then-half-eq2.ensures.cells

pub returns-then-half-eq2-clause-cost : goal.returns-then-half-eq2-clause-cost
returns-then-half-eq2-clause-cost g c =
    at_sizes (λ w h. c.meet_blocks-then-half-eq2.new.products
    ≤ c.args.products.now + g.R.Rule.cost * (c.args.blocks * (h * w))) c.args.width c.args.half 1 2
    c.if-width-eq1-2.true c.if-half-eq2.true c.meet_blocks-then-half-eq2.ensures.cost

pub meet_blocks-requires-then-half-eq4-clause-size : goal.meet_blocks-requires-then-half-eq4-clause-size
meet_blocks-requires-then-half-eq4-clause-size g c =
    known_sizes (λ w h. length c.args.values.now ≡ c.args.blocks * (2 * (h * w))) c.args.width c.args.half 1 4
    c.if-width-eq1-3.true c.if-half-eq4.true c.requires.size

pub meet_blocks-requires-then-half-eq4-clause-in_table : goal.meet_blocks-requires-then-half-eq4-clause-in_table
meet_blocks-requires-then-half-eq4-clause-in_table g c =
    subst (λ h. (b t : ℕ) → b < c.args.blocks → t < h → g.R.Rule.has c.args.rule (c.args.first_block + b) t)
    c.if-half-eq4.true c.requires.in_table

pub returns-then-half-eq4-clause-cells : goal.returns-then-half-eq4-clause-cells
returns-then-half-eq4-clause-cells g c =
    let field = g.F.Valued in
    layer_at field.value field.zero (g.R.Rule.near field.Element field.ring field.value c.args.rule)
    (g.R.Rule.far field.Element field.ring field.value c.args.rule)
    c.args.values.now c.meet_blocks-then-half-eq4.new.values c.args.first_block c.args.blocks c.args.width c.args.half 1
    4 c.if-width-eq1-3.true c.if-half-eq4.true c.meet_blocks-then-half-eq4.ensures.cells

pub returns-then-half-eq4-clause-cost : goal.returns-then-half-eq4-clause-cost
returns-then-half-eq4-clause-cost g c =
    at_sizes (λ w h. c.meet_blocks-then-half-eq4.new.products
    ≤ c.args.products.now + g.R.Rule.cost * (c.args.blocks * (h * w))) c.args.width c.args.half 1 4
    c.if-width-eq1-3.true c.if-half-eq4.true c.meet_blocks-then-half-eq4.ensures.cost

pub returns-else-width-eq1-3-clause-cells : goal.returns-else-width-eq1-3-clause-cells
returns-else-width-eq1-3-clause-cells g c = c.meet_blocks-else-width-eq1-3.ensures.cells
