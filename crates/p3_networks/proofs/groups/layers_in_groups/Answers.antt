use Rattle.p3_networks.proofs.Lemmas.{◌≡◌, ℕ, ◌+◌, ◌-◌, ◌*◌, ◌≤◌, length, sym, ap, ap₂, ◌∙◌, subst, arith, le_refl, cells_of, group_end, group_of, HoldsCells}
use Rattle.p3_networks.proofs.Lemmas.{rises_as, covered, covered_first, covered_last, covered_next, group_first, group_last, layers_more, stand, stand_first}
use Rattle.p3_networks.proofs.Lemmas.{stand_last}
use Rattle.p3_networks.proofs.groups.layers_in_groups.Goals as goal

pub loop-done-init : goal.loop-done-init
loop-done-init g c =
    let field = g.F.Valued in
    let enough : c.args.log_h - c.args.log_rows ≤ 3 * c.groups-count.result = omega (arith, c.groups-count.ensures) in
    let none = covered_first c.args.order c.args.log_rows c.args.log_h c.groups-count.result c.requires.below enough in
    record {
      cells =
          λ cells layers holds. subst (λ (e : ℕ). HoldsCells field.value field.zero 0 (cells e) c.args.values.now)
          (stand_first c.args.order c.args.log_rows c.args.log_h c.groups-count.result c.requires.below enough) holds;
      cost = record { grows = le_refl _; cost = omega arith };
    }

pub loop-done-preserved : goal.loop-done-preserved
loop-done-preserved g c =
    let field = g.F.Valued in
    let order = c.args.order in
    let r = c.args.log_rows in
    let k = c.args.log_h in
    let n = c.groups-count.result in
    let done = c.loop-done.done in
    let group = c.group-group.result in
    let from = c.group_end-from.result in
    let to = c.group_end-to.result in
    let from_is : from ≡ group_end r k (group_of order n done + 1) = c.group_end-from.ensures ∙ ap (λ m. group_end r k (m + 1)) c.group-group.ensures.group in
    let to_is : to ≡ group_end r k (group_of order n done) = c.group_end-to.ensures ∙ ap (λ m. group_end r k m) c.group-group.ensures.group in
    let first : stand order r k n done ≡ cells_of order from to 0 =
    group_first order r k n done c.loop-done-test.true ∙ sym (ap₂ (λ a b. cells_of order a b 0) from_is to_is) in
    let last : cells_of order from to (to - from) ≡ stand order r k n (done + 1) =
    ap₂ (λ a b. cells_of order a b (b - a)) from_is to_is ∙ group_last order r k n done c.loop-done-test.true in
    let more : covered order r k n (done + 1) ≡ covered order r k n done + (to - from) =
    covered_next order r k n done c.requires.below c.loop-done-test.true ∙ sym (ap₂ (λ a b. covered order r k n done + (b - a)) from_is to_is) in
    record {
      cells = λ cells layers holds.
          subst (λ (e : ℕ). HoldsCells field.value field.zero 0 (cells e) c.group_on_chunks.new.values) last
          (c.group_on_chunks.ensures.cells cells layers
          (subst (λ (e : ℕ). HoldsCells field.value field.zero 0 (cells e) c.loop-done.values) first (c.loop-done.invariant.cells cells layers holds)));
      cost =
          layers_more g.R.Rule.cost (covered order r k n done) (to - from) (covered order r k n (done + 1))
          (length c.args.values.now) _ _ _ more c.loop-done.invariant.cost
          (rises_as _ _ _ _ (ap (λ m. g.R.Rule.cost * ((to - from) * m)) c.loop-done.auto.values) c.group_on_chunks.ensures.cost);
    }

pub returns-clause-cells : goal.returns-clause-cells
returns-clause-cells g c cells layers holds =
    let field = g.F.Valued in
    let n = c.groups-count.result in
    let enough : c.args.log_h - c.args.log_rows ≤ 3 * n = omega (arith, c.groups-count.ensures) in
    let end : c.loop-done.done ≡ n = omega arith in
    subst (λ (e : ℕ). HoldsCells field.value field.zero 0 (cells e) c.loop-done.values)
    (ap (λ m. stand c.args.order c.args.log_rows c.args.log_h n m) end ∙ stand_last c.args.order c.args.log_rows c.args.log_h n c.requires.below enough)
    (c.loop-done.invariant.cells cells layers holds)

pub returns-clause-cost : goal.returns-clause-cost
returns-clause-cost g c =
    let n = c.groups-count.result in
    let enough : c.args.log_h - c.args.log_rows ≤ 3 * n = omega (arith, c.groups-count.ensures) in
    let end : c.loop-done.done ≡ n = omega arith in
    rises_as _ _ _ _ (ap (λ m. g.R.Rule.cost * (m * length c.args.values.now))
    (ap (λ m. covered c.args.order c.args.log_rows c.args.log_h n m) end ∙ covered_last c.args.order c.args.log_rows c.args.log_h n c.requires.below enough))
    c.loop-done.invariant.cost
