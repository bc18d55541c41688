use Rattle.p3_networks.proofs.Lemmas.{◌≡◌, ℕ, ◌+◌, ◌-◌, ◌*◌, ◌<◌, ◌≤◌, ◌++◌, min, length, get_or, List, sym, ap, ap₂, ◌∙◌, arith, ⊎_elim, Fits-le, add-mul}
use Rattle.p3_networks.proofs.Lemmas.{le-add_right, le_trans, mul-le-mul_right, cases_lt, power, power-add, power-one, power-zero, value_at, row_below}
use Rattle.p3_networks.proofs.Lemmas.{in_first}
use borrow.Rule.Slice.PartMut.{post_of}
use Rattle.p3_field.specs.declared.fields.Valued.{Ghosts as FieldMembers}
use Rattle.p3_networks.proofs.tiles.multiples_by_doubling.Goals as goal

-- how many rows a turn adds
turn : (done count more : ℕ) → 1 ≤ done → done < count → more ≡ min done (count - done)
    → (1 ≤ more) × ((more ≤ done) × ((done + more ≤ count) × (done + more < count → more ≡ done)))
turn done count more some below is = (omega (arith, some, below, is), (omega (arith, is), (omega (arith, below, is), λ left. omega (arith, left, is))))

-- rows that are among all
within_all : (n count w len : ℕ) → n ≤ count → len ≡ count * w → n * w ≤ len
within_all n count w len few full = rw full (mul-le-mul_right w few)

-- what was multiplied before, and in one turn
risen : (a b after done more w : ℕ) → b ≤ a + done * w → after ≤ b + more * w → after ≤ a + (done + more) * w
risen a b after done more w before turn = let spread : (done + more) * w ≡ done * w + more * w = omega arith in omega (arith, before, turn, spread)

-- rows of multiples behind the first ones, which are those times a power
multiples_more : {F : Type 0} (field : FieldMembers F) (w done more : ℕ) (entry : ℕ → field.Element)
    (first step factor : field.Element) (old new : List F)
    → more ≤ done → factor ≡ power field.ring step done
    → ((n : ℕ) → n < done * w → get_or new n field.zero ≡ get_or old n field.zero)
    → ((n : ℕ) → n < more * w → field.value (get_or new (done * w + n) field.zero) ≡ field.ring.mul (field.value (get_or old n field.zero)) factor)
    → ((t j : ℕ) → t < done → j < w
    → field.value (get_or old (t * w + j) field.zero)
    ≡ field.ring.mul (entry j) (field.ring.mul first (power field.ring step t)))
    → (t j : ℕ) → t < done + more → j < w → field.value (get_or new (t * w + j) field.zero)
    ≡ field.ring.mul (entry j) (field.ring.mul first (power field.ring step t))
multiples_more field w done more entry first step factor old new few factor_is kept scaled so_far t j below inside =
    ⊎_elim
    (λ earlier. ap field.value (kept (t * w + j) (row_below t j w done earlier inside)) ∙ so_far t j earlier inside)
    (λ later.
    let ring = field.ring in
    let u : ℕ = t - done in
    let is : u + done ≡ t = omega (arith, later) in
    let place : t * w + j ≡ done * w + (u * w + j) =
    ap (λ n. n * w + j) (sym is)
    ∙ (let spread : (u + done) * w + j ≡ done * w + (u * w + j) = omega arith in spread) in
    ap (λ i. field.value (get_or new i field.zero)) place
    ∙ scaled (u * w + j) (row_below u j w more (omega (arith, below, later)) inside)
    ∙ ap₂ ring.mul (so_far u j (omega (arith, below, later, few)) inside) factor_is
    ∙ ring.mul_assoc (entry j) (ring.mul first (power ring step u)) (power ring step done)
    ∙ ap (ring.mul (entry j)) (ring.mul_assoc first (power ring step u) (power ring step done) ∙ ap (ring.mul first)
    (sym (power-add ring step u done) ∙ ap (power ring step) is)))
    (cases_lt t done)

pub loop-done-init : goal.loop-done-init
loop-done-init g c =
    let field = g.F.Valued in
    let row = c.args.row.now in
    let copied : c.copy_from_slice.new.self ≡ row = c.copy_from_slice.ensures.after in
    let size : length c.scale_slice_in_place.new.values ≡ length row = c.scale_slice_in_place.auto.values ∙ ap length copied in
    let times = λ (x : field.Element). field.ring.mul x (field.value c.args.first) in
    let head = c.scale_slice_in_place.new.values in
    let rest = post_of 0 (length row - 0) c.args.values.now in
    record {
      nonzero = omega arith;
      within = omega (arith, c.if-count-eq0.false);
      factor = λ more. sym (power-one field.ring (field.value c.args.step));
      values = λ t j below inside.
          let first : t ≡ 0 = omega (arith, below) in
          let place : t * length row + j ≡ j = omega (arith, ap (λ n. n * length row) first) in
          ap (λ i. field.value (get_or (head ++ rest) i field.zero)) place
          ∙ ap field.value (in_first head rest j field.zero (omega (arith, inside, size)))
          ∙ value_at field.value times c.copy_from_slice.new.self head j field.zero
          c.scale_slice_in_place.ensures.values c.scale_slice_in_place.auto.values
          (omega (arith, inside, ap length copied))
          ∙ ap₂ field.ring.mul (ap (λ xs. field.value (get_or xs j field.zero)) copied)
          (sym (ap (field.ring.mul (field.value c.args.first)) (ap (power field.ring (field.value c.args.step)) first
          ∙ power-zero field.ring (field.value c.args.step))
          ∙ field.ring.mul_one (field.value c.args.first)));
      grows = omega (arith, c.scale_slice_in_place.ensures.count);
      cost = omega (arith, c.scale_slice_in_place.ensures.count, ap length copied);
    }

pub overflow_mul-done : goal.overflow_mul-done
overflow_mul-done g c = Fits-le (within_all _ c.args.count _ (length c.args.values.now) c.loop-done.invariant.within c.requires) search

pub overflow_mul-more : goal.overflow_mul-more
overflow_mul-more g c =
    let it = turn c.loop-done.done c.args.count c.min-more.result c.loop-done.invariant.nonzero c.loop-done-test.true c.min-more.ensures in
    Fits-le (within_all _ c.args.count _ (length c.args.values.now) (le_trans it.1.0 c.loop-done.invariant.within) c.requires) search

pub scale_behind-requires-clause-in_table : goal.scale_behind-requires-clause-in_table
scale_behind-requires-clause-in_table g c =
    let w = length c.args.row.now in
    let done = c.loop-done.done in
    let more = c.min-more.result in
    let it = turn done c.args.count more c.loop-done.invariant.nonzero c.loop-done-test.true c.min-more.ensures in
    mul-le-mul_right w it.1.0

pub scale_behind-requires-clause-room : goal.scale_behind-requires-clause-room
scale_behind-requires-clause-room g c =
    let w = length c.args.row.now in
    let done = c.loop-done.done in
    let more = c.min-more.result in
    let it = turn done c.args.count more c.loop-done.invariant.nonzero c.loop-done-test.true c.min-more.ensures in
    rw (← add-mul done more w) (within_all (done + more) c.args.count w _ it.1.1.0 (omega (arith, c.requires, c.loop-done.auto.values)))

pub returns-clause-values : goal.returns-clause-values
returns-clause-values g c t j below inside = c.loop-done.invariant.values t j (omega (arith, below, c.loop-done-test.false)) inside

pub loop-done-preserved : goal.loop-done-preserved
loop-done-preserved g c =
    let field = g.F.Valued in
    let w = length c.args.row.now in
    let done = c.loop-done.done in
    let more = c.min-more.result in
    let step = field.value c.args.step in
    let it = turn done c.args.count more c.loop-done.invariant.nonzero c.loop-done-test.true c.min-more.ensures in
    let power_is = c.loop-done.invariant.factor c.loop-done-test.true in
    record {
      nonzero = le_trans c.loop-done.invariant.nonzero (le-add_right done more);
      within = it.1.1.0;
      factor = λ left.
          g.met.F.Field.mul_law _ _ _ c.mul-factor.ensures ∙ ap₂ field.ring.mul power_is power_is
          ∙ sym (power-add field.ring step done done) ∙ ap (λ n. power field.ring step (done + n)) (sym (it.1.1.1 left));
      values =
          multiples_more field w done more (λ j. field.value (get_or c.args.row.now j field.zero))
          (field.value c.args.first) step _ c.loop-done.values c.scale_behind.new.values
          it.1.0 power_is c.scale_behind.ensures.kept c.scale_behind.ensures.scaled c.loop-done.invariant.values;
      grows = le_trans c.loop-done.invariant.grows c.scale_behind.ensures.grows;
      cost = risen _ _ _ done more w c.loop-done.invariant.cost c.scale_behind.ensures.cost;
    }
