use Rattle.p3_networks.proofs.Lemmas.{◌≡◌, ℕ, ◌+◌, ◌*◌, ◌^◌, [], ◌∷◌, ◌++◌, length, get_or, sym, ap, ◌∙◌, arith, add-one, length-append, ◌<◌, ◌≤◌, lit≤, subst}
use Rattle.p3_networks.proofs.Lemmas.{pow-le-pow_right, room_of, get_or_push, power, power-zero, layer_place, in_first, at_end}
use Rattle.p3_networks.proofs.Tables.ReversedPowers.{powers_doubled, place_above, place_of_none, layer_step}
use Rattle.p3_networks.proofs.twiddles.push_layer.Goals as goal
use Rattle.p3_networks.proofs.twiddles.push_layer.Goals.{then-reversed, else-reversed}

-- the places of a layer of which 2 ^ l entries are there, behind the old ones
module _ (old before l : ℕ) (size : before ≡ old + 2 ^ l) where
  doubled : (start now : ℕ) → start ≡ old → now + start ≡ 2 * before → now ≡ old + 2 ^ (l + 1)
  doubled start now is longer = let twice : 2 ^ (l + 1) ≡ 2 * 2 ^ l = ap (λ k. 2 ^ k) (add-one l) ∙ omega arith in omega (arith, longer, size, is, twice)

  still_there : (i : ℕ) → i < old → i < before
  still_there i below = omega (arith, below, size)

  among_them : (b : ℕ) → b < 2 ^ l → old + b < before
  among_them b below = omega (arith, below, size)

  behind_them : (b : ℕ) → old + (2 ^ l + b) ≡ before + b
  behind_them b = omega (arith, size)

pub loop-l-init : goal.loop-l-init
loop-l-init g c =
    let field = g.F.Valued in
    let old = c.args.twiddles.now.items in
    let first = c.args.first in
    let now : c.push.new.items.items ≡ old ++ first ∷ [] = c.in_ok-push.ensures.items in
    record {
      size = ap length now ∙ length-append old (first ∷ []);
      before = λ n below. ap (λ xs. get_or xs n field.zero) now ∙ in_first old (first ∷ []) n field.zero below;
      entries = λ e below.
          let none : e ≡ 0 = omega (arith, below) in
          let last : length old + e ≡ length old = omega (arith, none) in
          ap (λ xs. field.value (get_or xs (length old + e) field.zero)) now ∙ ap field.value (get_or_push old first field.zero (length old + e) (sym last))
          ∙ sym (ap (λ n. field.ring.mul (field.value first) (power field.ring (field.value c.args.base) n))
          (ap (layer_place c.args.reversed c.args.bits) none ∙ place_of_none c.args.reversed c.args.bits)
          ∙ ap (field.ring.mul (field.value first)) (power-zero field.ring (field.value c.args.base)) ∙ field.ring.mul_one (field.value first));
    }

-- The entries are doubled: those that are there stay, and behind them come their multiples by the root of the next layer.
pub loop-l-preserved : goal.loop-l-preserved
loop-l-preserved g c =
    let field = g.F.Valued in
    let l = c.loop-l.l in
    let n = c.args.bits in
    let old = c.args.twiddles.now.items in
    let before = c.loop-l.twiddles.items in
    let now = c.push_multiples.new.elements.items in
    let start : c.len-start.result ≡ length old = c.len-start.ensures ∙ c.args.twiddles.now.ok.0 in
    let size = c.loop-l.invariant.size in
    let entry = λ (b : ℕ). field.value (get_or now (length old + b) field.zero) in
    let step : c.if-reversed.exp_power_of_2 ≡ layer_step c.args.reversed n l =
    elim c.if-reversed.branch [
      | then-reversed w ↦ w.exp_power_of_2-is ∙ ap (λ b. layer_step b n l) (sym w.if-reversed.true)
      | else-reversed w ↦ w.exp_power_of_2-is ∙ ap (λ b. layer_step b n l) (sym w.if-reversed.false)
    ] in
    record {
      size = doubled (length old) (length before) l size _ _ start c.in_ok-push_multiples.ensures.size;
      before = λ i below. c.in_ok-push_multiples.ensures.before i (still_there (length old) (length before) l size i below) ∙ c.loop-l.invariant.before i below;
      entries =
          powers_doubled field.ring (field.value c.args.first) (field.value c.args.base)
          (field.value c.exp_power_of_2-factor.result) (layer_place c.args.reversed n) l
          (layer_step c.args.reversed n l)
          (λ b. field.value (get_or before (length old + b) field.zero)) entry
          (c.exp_power_of_2-factor.ensures ∙ ap (λ e. power field.ring (field.value c.args.base) (2 ^ e)) step)
          (λ b below. place_above c.args.reversed n l b c.loop-l-test.true below) c.loop-l.invariant.entries
          (λ b below. ap field.value (c.in_ok-push_multiples.ensures.before (length old + b) (among_them (length old) (length before) l size b below)))
          (λ b below.
          ap (λ k. field.value (get_or now k field.zero)) (behind_them (length old) (length before) l size b)
          ∙ c.in_ok-push_multiples.ensures.after b (subst (λ (n : ℕ). n + b < length before) (sym start)
          (among_them (length old) (length before) l size b below))
          ∙ ap (λ k. field.ring.mul (field.value (get_or before k field.zero)) (field.value c.exp_power_of_2-factor.result)) (ap (λ n. n + b) start));
    }

pub returns-clause-size : goal.returns-clause-size
returns-clause-size g c =
    at_end (λ l. length c.loop-l.twiddles.items ≡ length c.args.twiddles.now.items + 2 ^ l) c.loop-l.l c.args.bits
    c.loop-l.auto.l-end c.loop-l-test.false c.loop-l.invariant.size

pub returns-clause-entries : goal.returns-clause-entries
returns-clause-entries g c e inside =
    c.loop-l.invariant.entries e
    (at_end (λ l. e < 2 ^ l) c.args.bits c.loop-l.l c.loop-l-test.false c.loop-l.auto.l-end inside)

pub returns-in_err-push_multiples-clause-room : goal.returns-in_err-push_multiples-clause-room
returns-in_err-push_multiples-clause-room g c =
    let most : 2 ^ (c.loop-l.l + 1) ≤ 2 ^ c.args.bits = pow-le-pow_right {n = 2} (lit≤ tt) (omega (arith, c.loop-l-test.true)) in
    let twice : 2 ^ (c.loop-l.l + 1) ≡ 2 * 2 ^ c.loop-l.l = ap (λ k. 2 ^ k) (add-one c.loop-l.l) ∙ omega arith in
    room_of _ c.from_residual-in_err-push_multiples.result _ _ _ c.from_residual-in_err-push_multiples.ensures
    (omega (arith, most, twice, c.loop-l.invariant.size, c.len-start.ensures, c.args.twiddles.now.ok)) c.in_err-push_multiples.ensures.room
