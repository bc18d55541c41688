use Rattle.p3_networks.proofs.Lemmas.{◌≡◌, ℕ, ◌+◌, ◌*◌, ◌-◌, ◌<◌, ◌≤◌, ◌⊎◌, length, get_or, ap, ap₂, ◌∙◌, arith, inl, inr, ⊎_elim, subst, sym, Fits-le}
use Rattle.p3_networks.proofs.Lemmas.{add-le-add, le-add_right, le_of_eq, le_refl, le_trans, count_more, count_none, at_end, block_room, rows-next, rows-all}
use Rattle.p3_networks.proofs.Lemmas.{rows-none}
use Rattle.p3_networks.proofs.groups.Columns.on_halves.Goals as goal

pub overflow_mul-start : goal.overflow_mul-start
overflow_mul-start g c =
    Fits-le (le_trans (le-add_right _ _) (block_room c.loop-t.t c.args.self.now.half c.args.self.now.part
    (length c.args.low.now) c.loop-t-test.true c.requires.low)) search

pub overflow_add-start : goal.overflow_add-start
overflow_add-start g c =
    Fits-le (le_trans (add-le-add (le_refl _) (le_trans c.requires.ordered c.requires.inside)) (block_room c.loop-t.t
    c.args.self.now.half c.args.self.now.part (length c.args.low.now) c.loop-t-test.true c.requires.low)) search

pub overflow_add-start-in-loop-t : goal.overflow_add-start-in-loop-t
overflow_add-start-in-loop-t g c =
    Fits-le (le_trans (add-le-add (le_refl _) c.requires.inside) (block_room c.loop-t.t c.args.self.now.half
    c.args.self.now.part (length c.args.low.now) c.loop-t-test.true c.requires.low)) search

pub meet_ranges-requires-clause-room : goal.meet_ranges-requires-clause-room
meet_ranges-requires-clause-room g c =
    le_trans (add-le-add (le_refl _) c.requires.inside) (le_trans (block_room c.loop-t.t c.args.self.now.half
    c.args.self.now.part (length c.args.low.now) c.loop-t-test.true c.requires.low)
    (le_of_eq (sym c.loop-t.auto.low)))

pub meet_ranges-requires-clause-size : goal.meet_ranges-requires-clause-size
meet_ranges-requires-clause-size g c = omega (arith, c.loop-t.auto.low, c.loop-t.auto.high, c.requires.low, c.requires.high)

-- columns outside of those that meet, in their row
outside_of : (t part at end j : ℕ) → (j < at) ⊎ (end ≤ j) → (t * part + j < t * part + at) ⊎ (t * part + end ≤ t * part + j)
outside_of t part at end j outside = ⊎_elim (λ before. inl (omega (arith, before))) (λ after. inr (omega (arith, after))) outside

inside_of : (t part at end j : ℕ) → at ≤ j → j < end → (t * part + at ≤ t * part + j) × (t * part + j < t * part + end)
inside_of t part at end j first last = (omega (arith, first), omega (arith, last))

other_rows : (t part at end n : ℕ) → end ≤ part → (n < t * part) ⊎ (t * part + part ≤ n) → (n < t * part + at) ⊎ (t * part + end ≤ n)
other_rows t part at end n inside outside = ⊎_elim (λ before. inl (omega (arith, before))) (λ after. inr (omega (arith, after, inside))) outside

columns_of : (t part at end : ℕ) → t * part + end - (t * part + at) ≡ end - at
columns_of t part at end = omega arith

-- One row more of each half: its columns meet, the others stay, and so do the other rows.
pub loop-t-preserved : goal.loop-t-preserved
loop-t-preserved g c =
    let field = g.F.Valued in
    let rule = g.R.Rule in
    let zero = field.zero in
    let t = c.loop-t.t in
    let part = c.args.self.now.part in
    let at = c.args.self.now.at in
    let end = c.args.self.now.end in
    let met = c.meet_ranges in
    let low : (j : ℕ) → get_or c.loop-t.low (t * part + j) zero ≡ get_or c.args.low.now (t * part + j) zero =
    λ j. c.loop-t.invariant.near.rest (t * part + j) (le-add_right _ j) in
    let high : (j : ℕ) → get_or c.loop-t.high (t * part + j) zero ≡ get_or c.args.high.now (t * part + j) zero =
    λ j. c.loop-t.invariant.far.rest (t * part + j) (le-add_right _ j) in
    record {
      near =
          rows-next zero part _ c.args.low.now c.loop-t.low met.new.low t met.auto.low
          (λ n o. met.ensures.low_stays n (other_rows t part at end n c.requires.inside o))
          (λ j inside. record {
            inside = λ first last.
                met.ensures.near (t * part + j) (inside_of t part at end j first last).0 (inside_of t part at end j first last).1
                ∙ ap₂ (rule.near field.Element field.ring field.value c.args.self.now.rule c.args.block 0) (ap field.value (low j)) (ap field.value (high j));
            outside = λ o. met.ensures.low_stays (t * part + j) (outside_of t part at end j o) ∙ low j;
          }) c.loop-t.invariant.near;
      far =
          rows-next zero part _ c.args.high.now c.loop-t.high met.new.high t met.auto.high
          (λ n o. met.ensures.high_stays n (other_rows t part at end n c.requires.inside o))
          (λ j inside. record {
            inside = λ first last.
                met.ensures.far (t * part + j) (inside_of t part at end j first last).0 (inside_of t part at end j first last).1
                ∙ ap₂ (rule.far field.Element field.ring field.value c.args.self.now.rule c.args.block 0) (ap field.value (low j)) (ap field.value (high j));
            outside = λ o. met.ensures.high_stays (t * part + j) (outside_of t part at end j o) ∙ high j;
          }) c.loop-t.invariant.far;
      grows = le_trans c.loop-t.invariant.grows met.ensures.grows;
      cost =
          count_more rule.cost t (end - at) _ _ _ c.loop-t.invariant.cost (subst
          (λ (n : ℕ). met.new.products ≤ c.loop-t.products + rule.cost * n) (columns_of t part at end)
          met.ensures.cost);
    }

pub loop-t-init : goal.loop-t-init
loop-t-init g c = record {
  near = rows-none g.F.Valued.zero c.args.self.now.part _ c.args.low.now;
  far = rows-none g.F.Valued.zero c.args.self.now.part _ c.args.high.now;
  grows = le_refl c.args.products.now;
  cost = count_none g.R.Rule.cost (c.args.self.now.end - c.args.self.now.at) c.args.products.now;
}

pub returns-clause-near : goal.returns-clause-near
returns-clause-near g c t j p q =
    (rows-all g.F.Valued.zero c.args.self.now.part _ c.args.low.now c.loop-t.low c.loop-t.t c.args.self.now.half
    c.loop-t-test.false c.loop-t.invariant.near t j p q).inside

pub returns-clause-far : goal.returns-clause-far
returns-clause-far g c t j p q =
    (rows-all g.F.Valued.zero c.args.self.now.part _ c.args.high.now c.loop-t.high c.loop-t.t c.args.self.now.half
    c.loop-t-test.false c.loop-t.invariant.far t j p q).inside

pub returns-clause-kept : goal.returns-clause-kept
returns-clause-kept g c t j p q other = (
  (rows-all g.F.Valued.zero c.args.self.now.part _ c.args.low.now c.loop-t.low c.loop-t.t c.args.self.now.half
      c.loop-t-test.false c.loop-t.invariant.near t j p q).outside other,
  (rows-all g.F.Valued.zero c.args.self.now.part _ c.args.high.now c.loop-t.high c.loop-t.t c.args.self.now.half
      c.loop-t-test.false c.loop-t.invariant.far t j p q).outside other,
)

pub returns-clause-cost : goal.returns-clause-cost
returns-clause-cost g c =
    at_end
    (λ n. c.loop-t.products ≤ c.args.products.now + g.R.Rule.cost * (n * (c.args.self.now.end - c.args.self.now.at)))
    c.loop-t.t c.args.self.now.half c.loop-t.auto.t-end c.loop-t-test.false c.loop-t.invariant.cost
