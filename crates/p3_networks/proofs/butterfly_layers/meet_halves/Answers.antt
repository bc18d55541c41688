use Rattle.p3_networks.proofs.Lemmas.{◌≡◌, ◌⊎◌, ℕ, ◌+◌, ◌-◌, ◌*◌, ◌<◌, ◌≤◌, length, get_or, ap, ap₂, ◌∙◌, subst, arith, le-add_right, le_trans}
use Rattle.p3_networks.proofs.Lemmas.{add-sub_cancel_left, count_more, count_all, block_room, rows-next, rows-none, rows-all}
use Rattle.p3_networks.proofs.butterfly_layers.meet_halves.Goals as goal

pub meet_ranges-requires-clause-room : goal.meet_ranges-requires-clause-room
meet_ranges-requires-clause-room g c = omega (arith, block_room 0 c.args.half c.args.width (length c.args.low.now) c.requires.nonzero c.requires.low)

pub overflow_mul-start : goal.overflow_mul-start
overflow_mul-start g c = omega (arith, block_room c.loop-t.t c.args.half c.args.width (length c.args.low.now) c.loop-t-test.true c.requires.low)

pub overflow_add-start : goal.overflow_add-start
overflow_add-start g c = omega (arith, block_room c.loop-t.t c.args.half c.args.width (length c.args.low.now) c.loop-t-test.true c.requires.low)

pub meet_ranges-requires-in-loop-t-clause-room : goal.meet_ranges-requires-in-loop-t-clause-room
meet_ranges-requires-in-loop-t-clause-room g c =
    omega (arith, block_room c.loop-t.t c.args.half c.args.width (length c.args.low.now) c.loop-t-test.true c.requires.low, c.loop-t.invariant.near.size)

pub meet_ranges-requires-in-loop-t-clause-size : goal.meet_ranges-requires-in-loop-t-clause-size
meet_ranges-requires-in-loop-t-clause-size g c = omega (arith, c.loop-t.invariant.near.size, c.loop-t.invariant.far.size, c.requires.low, c.requires.high)

-- the first row, from its beginning
at_zero : (P : ℕ → ℕ → Type 0) (w : ℕ) → P 0 w → P (0 * w) (0 * w + w)
at_zero P w given =
    let none : 0 ≡ 0 * w = omega arith in
    let end : w ≡ 0 * w + w = omega arith in subst (λ n. P n (0 * w + w)) none (subst (λ n. P 0 n) end given)

pub loop-t-init : goal.loop-t-init
loop-t-init g c =
    let field = g.F.Valued in
    let w = c.args.width in
    let met = c.meet_ranges in
    let place : (j : ℕ) → 0 * w + j ≡ j = λ j. omega arith in
    record {
      near = rows-next field.zero w _ c.args.low.now c.args.low.now met.new.low 0 met.auto.low
          (at_zero (λ a b. (n : ℕ) → (n < a) ⊎ (b ≤ n) → get_or met.new.low n field.zero ≡ get_or c.args.low.now n field.zero) w met.ensures.low_stays)
          (λ j inside. met.ensures.near (0 * w + j) (omega arith) (omega (arith, inside, place j))) (rows-none field.zero w _ c.args.low.now);
      far = rows-next field.zero w _ c.args.high.now c.args.high.now met.new.high 0 met.auto.high
          (at_zero (λ a b. (n : ℕ) → (n < a) ⊎ (b ≤ n) → get_or met.new.high n field.zero ≡ get_or c.args.high.now n field.zero) w met.ensures.high_stays)
          (λ j inside. met.ensures.far (0 * w + j) (omega arith) (omega (arith, inside, place j))) (rows-none field.zero w _ c.args.high.now);
      grows = met.ensures.grows;
      cost = let all : w - 0 ≡ 1 * w = omega arith in rw all at met.ensures.cost;
    }

pub loop-t-preserved : goal.loop-t-preserved
loop-t-preserved g c =
    let field = g.F.Valued in
    let rule = g.R.Rule in
    let zero = field.zero in
    let t = c.loop-t.t in
    let w = c.args.width in
    let met = c.meet_ranges-in-loop-t in
    let a : (j : ℕ) → field.value (get_or c.loop-t.low (t * w + j) zero) ≡ field.value (get_or c.args.low.now (t * w + j) zero) =
    λ j. ap field.value (c.loop-t.invariant.near.rest (t * w + j) (le-add_right _ j)) in
    let b : (j : ℕ) → field.value (get_or c.loop-t.high (t * w + j) zero) ≡ field.value (get_or c.args.high.now (t * w + j) zero) =
    λ j. ap field.value (c.loop-t.invariant.far.rest (t * w + j) (le-add_right _ j)) in
    record {
      near = rows-next zero w _ c.args.low.now c.loop-t.low met.new.low t met.auto.low met.ensures.low_stays
          (λ j inside. met.ensures.near (t * w + j) (le-add_right _ j) (omega (arith, inside))
          ∙ ap₂ (rule.near field.Element field.ring field.value c.args.rule c.args.block t) (a j) (b j))
          c.loop-t.invariant.near;
      far = rows-next zero w _ c.args.high.now c.loop-t.high met.new.high t met.auto.high met.ensures.high_stays
          (λ j inside. met.ensures.far (t * w + j) (le-add_right _ j) (omega (arith, inside))
          ∙ ap₂ (rule.far field.Element field.ring field.value c.args.rule c.args.block t) (a j) (b j))
          c.loop-t.invariant.far;
      grows = le_trans c.loop-t.invariant.grows met.ensures.grows;
      cost =
          count_more rule.cost t w _ _ _ c.loop-t.invariant.cost (subst
          (λ (n : ℕ). met.new.products ≤ c.loop-t.products + rule.cost * n) (add-sub_cancel_left (t * w) w)
          met.ensures.cost);
    }

pub returns-clause-near : goal.returns-clause-near
returns-clause-near g c = rows-all g.F.Valued.zero c.args.width _ c.args.low.now c.loop-t.low c.loop-t.t c.args.half c.loop-t-test.false c.loop-t.invariant.near

pub returns-clause-far : goal.returns-clause-far
returns-clause-far g c = rows-all g.F.Valued.zero c.args.width _ c.args.high.now c.loop-t.high c.loop-t.t c.args.half c.loop-t-test.false c.loop-t.invariant.far

pub returns-clause-cost : goal.returns-clause-cost
returns-clause-cost g c =
    count_all g.R.Rule.cost c.loop-t.t c.args.half c.args.width c.args.products.now c.loop-t.products
    (c.loop-t.auto.t-end c.requires.nonzero) c.loop-t.invariant.cost
