use Rattle.p3_networks.proofs.Lemmas.{◌≡◌, ℕ, ◌+◌, ◌*◌, ◌/◌, ◌++◌, ◌<◌, List, length, get_or, take, drop, ap, ◌∙◌, arith, ◌≤◌, sym, subst, MeetHalves}
use Rattle.p3_networks.proofs.Lemmas.{row_below, in_first, in_second, of_halves, each_cell, half_within, halves_same, mul-le-mul_right, dit_near, dit_far}
use Rattle.p3_networks.proofs.butterfly_layers.meet_block.Goals as goal

-- halves that meet by the rows and columns of their cells
halves_met : {A T : Type 0} (value : T → A) (d : T) (w h : ℕ) (near far : ℕ → A → A → A) (whole low high first second : List T)
    → 0 < w → low ≡ take (h * w) whole → high ≡ drop (h * w) whole → length first ≡ h * w
    → ((t j : ℕ) → t < h → j < w → t * w + j < h * w → (value (get_or first (t * w + j) d) ≡ near t
    (value (get_or low (t * w + j) d)) (value (get_or high (t * w + j) d)))
    × (value (get_or second (t * w + j) d) ≡ far t (value (get_or low (t * w + j) d)) (value (get_or high (t * w + j) d))))
    → MeetHalves (h * w) (λ i. near (i / w)) (λ i. far (i / w)) (λ n. value (get_or whole n d)) (λ n. value (get_or (first ++ second) n d))
halves_met value d w h near far whole low high first second wide low_is high_is size met = record {
  near_cell = each_cell (λ t n. value (get_or (first ++ second) n d) ≡ near t (value (get_or whole n d)) (value (get_or whole (h * w + n) d))) w h wide
      (λ t j p q. let inside = row_below t j w h p q in
      ap value (in_first first second (t * w + j) d (omega (arith, inside, size))) ∙ (met t j p q inside).0 ∙
      of_halves (λ x y. near t (value x) (value y)) whole low high (h * w) (t * w + j) d low_is high_is inside);
  far_cell = each_cell (λ t n. value (get_or (first ++ second) (h * w + n) d) ≡ far t (value (get_or whole n d)) (value (get_or whole (h * w + n) d))) w h wide
      (λ t j p q. let inside = row_below t j w h p q in
      ap value (in_second first second (h * w) (t * w + j) d size) ∙ (met t j p q inside).1 ∙ of_halves
      (λ x y. far t (value x) (value y)) whole low high (h * w) (t * w + j) d low_is high_is inside);
}

pub returns-then-goes_by_block-clause-cells : goal.returns-then-goes_by_block-clause-cells
returns-then-goes_by_block-clause-cells g c =
    let field = g.F.Valued in
    let w = c.args.width in
    let h = c.args.half in
    let near = g.R.Rule.near field.Element field.ring field.value c.args.rule c.args.block in
    let far = g.R.Rule.far field.Element field.ring field.value c.args.rule c.args.block in
    let front = c.split_at_mut-low.ensures in
    halves_met field.value field.zero w h near far c.args.values.now c.split_at_mut-low.result.0.now
    c.split_at_mut-low.result.1.now c.meet.new.row_1 c.meet.new.row_2 c.requires.width front.front front.back
    (c.meet.auto.row_1 ∙ front.front_len)
    (λ t j p q inside.
    let x = field.value (get_or c.split_at_mut-low.result.0.now (t * w + j) field.zero) in
    let y = field.value (get_or c.split_at_mut-low.result.1.now (t * w + j) field.zero) in
    let same = c.goes_by_block.ensures.same c.if-goes_by_block.true c.args.block 0 t in (
      c.meet.ensures.near (t * w + j) (omega (arith, inside, front.front_len)) ∙ ap (λ (f : field.Element → field.Element → field.Element). f x y) same.0,
      c.meet.ensures.far (t * w + j) (omega (arith, inside, front.front_len)) ∙ ap (λ (f : field.Element → field.Element → field.Element). f x y) same.1,
    ))

pub returns-in-Some-clause-cells : goal.returns-in-Some-clause-cells
returns-in-Some-clause-cells g c =
    let field = g.F.Valued in
    let w = c.args.width in
    let h = c.args.half in
    let near = g.R.Rule.near field.Element field.ring field.value c.args.rule c.args.block in
    let far = g.R.Rule.far field.Element field.ring field.value c.args.rule c.args.block in
    let front = c.split_at_mut-low.ensures in
    let one : w ≡ 1 = (c.is_column_of_packs.ensures.0 c.if-is_column_of_packs.true).0 in
    halves_met field.value field.zero w h near far c.args.values.now c.split_at_mut-low.result.0.now
    c.split_at_mut-low.result.1.now c.meet_by_place.new.low c.meet_by_place.new.high c.requires.width front.front
    front.back (c.meet_by_place.auto.low ∙ front.front_len)
    (λ t j p q inside.
    let x = field.value (get_or c.split_at_mut-low.result.0.now (t * w + j) field.zero) in
    let y = field.value (get_or c.split_at_mut-low.result.1.now (t * w + j) field.zero) in
    let place : t * w + j ≡ t = ap (λ k. t * k + j) one ∙ omega (arith, q, one) in
    let met = c.in-Some.ensures.1 t (c.requires.in_table t p) in
    let twiddle = ap (λ k. field.value (get_or c.in-Some.twiddles.now k field.zero)) place in (
      c.meet_by_place.ensures.near (t * w + j) (omega (arith, inside, front.front_len))
          ∙ ap (λ k. dit_near field.ring k x y) twiddle
          ∙ sym (ap (λ (f : field.Element → field.Element → field.Element). f x y) met.1),
      c.meet_by_place.ensures.far (t * w + j) (omega (arith, inside, front.front_len))
          ∙ ap (λ k. dit_far field.ring k x y) twiddle
          ∙ sym (ap (λ (f : field.Element → field.Element → field.Element). f x y) met.2),
    ))

pub returns-clause-cells : goal.returns-clause-cells
returns-clause-cells g c =
    let field = g.F.Valued in
    let w = c.args.width in
    let h = c.args.half in
    let near = g.R.Rule.near field.Element field.ring field.value c.args.rule c.args.block in
    let far = g.R.Rule.far field.Element field.ring field.value c.args.rule c.args.block in
    let front = c.split_at_mut-low.ensures in
    halves_met field.value field.zero w h near far c.args.values.now c.split_at_mut-low.result.0.now
    c.split_at_mut-low.result.1.now c.meet_halves.new.low c.meet_halves.new.high c.requires.width front.front
    front.back (c.meet_halves.auto.low ∙ front.front_len)
    (λ t j p q inside. (c.meet_halves.ensures.near t j p q, c.meet_halves.ensures.far t j p q))

pub returns-in-Some-clause-cost : goal.returns-in-Some-clause-cost
returns-in-Some-clause-cost g c =
    let once : 1 * length c.split_at_mut-low.result.0.now ≤ g.R.Rule.cost * length c.split_at_mut-low.result.0.now = mul-le-mul_right _ c.in-Some.ensures.0 in
    subst (λ n. c.meet_by_place.new.products ≤ c.args.products.now + g.R.Rule.cost * n)
    c.split_at_mut-low.ensures.front_len (omega (arith, once, c.meet_by_place.ensures.count))

pub returns-then-goes_by_block-clause-cost : goal.returns-then-goes_by_block-clause-cost
returns-then-goes_by_block-clause-cost g c =
    subst (λ n. c.meet.new.products ≤ c.args.products.now + g.R.Rule.cost * n) c.split_at_mut-low.ensures.front_len
    c.meet.ensures.cost

pub meet_by_place-requires-clause-size : goal.meet_by_place-requires-clause-size
meet_by_place-requires-clause-size g c = halves_same _ _ _ _ c.split_at_mut-low.ensures.front_len c.split_at_mut-low.ensures.back_len c.requires.size

pub meet_by_place-requires-clause-enough : goal.meet_by_place-requires-clause-enough
meet_by_place-requires-clause-enough g c =
    let one : c.args.width ≡ 1 = (c.is_column_of_packs.ensures.0 c.if-is_column_of_packs.true).0 in
    let size = c.split_at_mut-low.ensures.front_len ∙ ap (λ n. c.args.half * n) one in
    omega (arith, size, half_within c.args.half _ c.requires.nonzero (λ t inside. (c.in-Some.ensures.1 t (c.requires.in_table t inside)).0))

pub meet-requires-clause-size : goal.meet-requires-clause-size
meet-requires-clause-size g c = halves_same _ _ _ _ c.split_at_mut-low.ensures.front_len c.split_at_mut-low.ensures.back_len c.requires.size
