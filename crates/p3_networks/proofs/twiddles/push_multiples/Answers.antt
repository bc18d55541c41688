use Rattle.p3_networks.proofs.Lemmas.{◌≡◌, ℕ, ◌+◌, ◌++◌, ◌<◌, ◌≤◌, List, [], ◌∷◌, length, get_or, length-append, refl, ap, ◌∙◌, arith, ⊎_elim, cases_lt}
use Rattle.p3_networks.proofs.Lemmas.{get_or_default, in_first, in_second}
use Rattle.p3_networks.proofs.twiddles.push_multiples.Goals as goal

-- one multiple more
module _ {T A : Type 0} (value : T → A) (d : T) (times : A → A) (old now new : List T) (from i : ℕ) (x y : T)
    (size : length now + from ≡ length old + i) (from_on : from ≤ i) (pushed : new ≡ now ++ y ∷ []) where
  more_size : length new + from ≡ length old + (i + 1)
  more_size = let e : length new ≡ length now + 1 = ap length pushed ∙ length-append now (y ∷ []) in omega (arith, e, size)

  more_before : ((n : ℕ) → n < length old → get_or now n d ≡ get_or old n d) → (n : ℕ) → n < length old → get_or new n d ≡ get_or old n d
  more_before same n inside = ap (λ xs. get_or xs n d) pushed ∙ in_first now (y ∷ []) n d (omega (arith, inside, size, from_on)) ∙ same n inside

  more_after : ((n : ℕ) → n < length old → get_or now n d ≡ get_or old n d) → i < length old → x ≡ get_or now i x → value y ≡ times (value x)
      → ((n : ℕ) → from + n < i → value (get_or now (length old + n) d) ≡ times (value (get_or old (from + n) d)))
      → (n : ℕ) → from + n < i + 1 → value (get_or new (length old + n) d) ≡ times (value (get_or old (from + n) d))
  more_after same among read is so_far n below =
      ap (λ xs. value (get_or xs (length old + n) d)) pushed
      ∙ ⊎_elim
      (λ less. ap value (in_first now (y ∷ []) (length old + n) d (omega (arith, less, size))) ∙ so_far n less)
      (λ last.
      let place : i ≡ from + n = omega (arith, last, below) in
      let end : length old + n ≡ length now + 0 = omega (arith, place, size) in
      ap (λ m. value (get_or (now ++ y ∷ []) m d)) end ∙ ap value (in_second now (y ∷ []) (length now) 0 d refl) ∙ is
      ∙ ap (λ z. times (value z)) (read ∙ get_or_default now i x d (omega (arith, among, size, from_on)) ∙ same i among ∙ ap (λ m. get_or old m d) place))
      (cases_lt (from + n) i)

pub loop-i-preserved : goal.loop-i-preserved
loop-i-preserved g c =
    let field = g.F.Valued in
    let times = λ (a : field.Element). field.ring.mul a (field.value c.args.factor) in
    let old = c.args.elements.now.items in
    let now = c.loop-i.elements.items in
    let new = c.push.new.items.items in
    let among : c.loop-i.i < length old = omega (arith, c.len-i-end.ensures, c.loop-i-test.true) in
    record {
      size =
          more_size field.value field.zero times old now new c.args.from c.loop-i.i c.index.result.now
          c.mul-multiple.result c.loop-i.invariant.size c.loop-i.auto.i c.in_ok-push.ensures.items;
      before =
          more_before field.value field.zero times old now new c.args.from c.loop-i.i c.index.result.now
          c.mul-multiple.result c.loop-i.invariant.size c.loop-i.auto.i c.in_ok-push.ensures.items
          c.loop-i.invariant.before;
      after =
          more_after field.value field.zero times old now new c.args.from c.loop-i.i c.index.result.now
          c.mul-multiple.result c.loop-i.invariant.size c.loop-i.auto.i c.in_ok-push.ensures.items
          c.loop-i.invariant.before among
          c.index.ensures (g.met.F.Field.mul_law _ _ _ c.mul-multiple.ensures) c.loop-i.invariant.after;
    }

pub returns-clause-after : goal.returns-clause-after
returns-clause-after g c n inside = c.loop-i.invariant.after n (omega (arith, inside, c.len-i-end.ensures, c.loop-i-test.false))

pub loop-i-init : goal.loop-i-init
loop-i-init g c = record { size = refl; before = λ n inside. refl; after = λ n none. absurd (omega (arith, none)) }
