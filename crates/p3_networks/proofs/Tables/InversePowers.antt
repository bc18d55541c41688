-- Powers of the inverse of a root from those of the root, both in bit reversed order: a chunk of 2 ^ l entries from place 2 ^ l on is
-- turned around and negated.
use Rattle.p3_networks.proofs.Names.{◌≡◌, ℕ, zero, suc, ◌+◌, ◌*◌, ◌-◌, ◌<◌, ◌≤◌, ◌^◌, sym, ap, ap₂, ◌∙◌, arith, add-one, ◌⊎◌, inl, inr, pow-add, pow_pos}
use Rattle.p3_networks.proofs.Names.{two-pow-succ, Ring, power, AreRoots, even_or_odd, inverse_root, inverse_undoes, inverse_power, root_across, rev, rev-zero}
use Rattle.p3_networks.proofs.Names.{rev_of_zero, rev-even, rev-odd, rev-block}
use Rattle.p3_networks.proofs.Tables.ReversedPowers.{rev_above}

-- all digits turned
rev_flipped : (l t : ℕ) → t < 2 ^ l → rev l t + rev l (2 ^ l - 1 - t) ≡ 2 ^ l - 1
rev_flipped zero t below = ap₂ (λ x y. x + y) (rev-zero t) (rev-zero (2 ^ 0 - 1 - t))
rev_flipped (suc l) t below = go (rev_flipped l) (even_or_odd t)
  where
    twice : 2 ^ suc l ≡ 2 * 2 ^ l
    twice = omega arith

    go : ((j : ℕ) → j < 2 ^ l → rev l j + rev l (2 ^ l - 1 - j) ≡ 2 ^ l - 1)
        → ((j : ℕ) × t ≡ 2 * j) ⊎ ((j : ℕ) × t ≡ 2 * j + 1)
        → rev (suc l) t + rev (suc l) (2 ^ suc l - 1 - t) ≡ 2 ^ suc l - 1
    go ih (inl (j, e)) =
        let less : j < 2 ^ l = omega (arith, e, below, twice) in
        let other : 2 ^ suc l - 1 - t ≡ 2 * (2 ^ l - 1 - j) + 1 = omega (arith, e, twice, less) in
        let low = rev-even l j in
        let high = rev-odd l (2 ^ l - 1 - j) in
        ap₂ (λ x y. rev (suc l) x + rev (suc l) y) e other ∙ omega (arith, low, high, ih j less, twice, pow_pos l)
    go ih (inr (j, e)) =
        let less : j < 2 ^ l = omega (arith, e, below, twice) in
        let other : 2 ^ suc l - 1 - t ≡ 2 * (2 ^ l - 1 - j) = omega (arith, e, twice, less) in
        let low = rev-odd l j in
        let high = rev-even l (2 ^ l - 1 - j) in
        ap₂ (λ x y. rev (suc l) x + rev (suc l) y) e other ∙ omega (arith, low, high, ih j less, twice, pow_pos l)

-- two places of a chunk that change places
rev_turned : (n l t : ℕ) → l < n → t < 2 ^ l → rev n (2 ^ l + t) + rev n (2 ^ l + (2 ^ l - 1 - t)) ≡ 2 ^ n
rev_turned n l t below inside =
    let u = 2 ^ l - 1 - t in
    let small : u < 2 ^ l = omega (arith, inside) in
    let m = n - 1 - l in
    let size : n ≡ l + suc m = omega arith in
    let low = λ (x : ℕ). let e : x ≡ 0 * 2 ^ l + x = omega arith in e in
    let part = λ (x : ℕ) (less : x < 2 ^ l). ap₂ rev size (low x) ∙ rev-block l (suc m) 0 x less ∙ ap (λ y. rev l x * 2 ^ suc m + y) (rev_of_zero (suc m)) in
    let first : rev n t ≡ rev l t * 2 ^ suc m + 0 = part t inside in
    let second : rev n u ≡ rev l u * 2 ^ suc m + 0 = part u small in
    let both : rev l t * 2 ^ suc m + rev l u * 2 ^ suc m ≡ (rev l t + rev l u) * 2 ^ suc m = omega arith in
    let all : (rev l t + rev l u) * 2 ^ suc m ≡ (2 ^ l - 1) * 2 ^ suc m = ap (λ x. x * 2 ^ suc m) (rev_flipped l t inside) in
    let whole : (2 ^ l - 1) * 2 ^ suc m + 2 ^ suc m ≡ 2 ^ l * 2 ^ suc m =
    let some = pow_pos l in
    let e : suc (2 ^ l - 1) ≡ 2 ^ l = omega (arith, some) in
    let d : (2 ^ l - 1) * 2 ^ suc m + 2 ^ suc m ≡ suc (2 ^ l - 1) * 2 ^ suc m = omega arith in
    d ∙ ap (λ x. x * 2 ^ suc m) e in
    let power : 2 ^ l * 2 ^ suc m ≡ 2 ^ n = sym (pow-add 2 l (suc m)) ∙ ap (λ x. 2 ^ x) (sym size) in
    omega (arith, rev_above n l t below inside, rev_above n l u below small, first, second, both, all, whole, power, two-pow-succ m)

module _ {A : Type 0} (R : Ring A) {g : ℕ → A} {bits : ℕ} (G : AreRoots R bits g) where
  pub inverse_entry : (n l b : ℕ) → n + 1 ≤ bits → l < n → 2 ^ l ≤ b → b < 2 * 2 ^ l
      → R.neg (power R (g (n + 1)) (rev n (3 * 2 ^ l - 1 - b))) ≡ power R (inverse_root R g (n + 1)) (rev n b)
  inverse_entry n l b within below from until =
      let t = b - 2 ^ l in
      let u = rev n (3 * 2 ^ l - 1 - b) in
      let place : 2 ^ l + t ≡ b = omega (arith, from) in
      let other : 2 ^ l + (2 ^ l - 1 - t) ≡ 3 * 2 ^ l - 1 - b = omega (arith, from, until) in
      let sum : rev n b + u ≡ 2 ^ n = ap₂ (λ x y. rev n x + rev n y) (sym place) (sym other) ∙ rev_turned n l t below (omega (arith, from, until)) in
      let round : rev n b + (2 ^ n + u) ≡ 2 ^ suc n = omega (arith, sum, two-pow-succ n) in
      ap (λ k. R.neg (power R (g k) u)) (add-one n)
      ∙ sym (inverse_power R G (inverse_undoes R G) (suc n) (rev n b) (2 ^ n + u) (omega (arith, within)) round ∙ root_across R G n u (omega (arith, within)))
      ∙ ap (λ k. power R (inverse_root R g k) (rev n b)) (sym (add-one n))
